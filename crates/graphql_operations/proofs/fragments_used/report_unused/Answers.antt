use Rattle.std.proofs.Common.{◌≡◌, ◌∙◌, ◌++◌, [], ◌∷◌, sym, ap, subst, All, Contains}
use Rattle.std.proofs.lemmas.List.{append-nil}
use Rattle.std.proofs.lemmas.List.Elements.{Contains-append_left}
use Rattle.std.proofs.lemmas.Result.{MatchResult-from_err}
use Rattle.indexmap.specs.IndexMap.{values}
use Rattle.graphql_diagnostics.specs.Diagnostics.{entries}
use Rattle.graphql_specification.specs.FragmentsUsed.{AreUnusedFragmentReports, FragmentUseReport, no_fragment}
use Rattle.graphql_diagnostics.specs.Reports.{Appends, KeepsReports}
use Rattle.graphql_documents.specs.declared.documents.executables.Fragment.{Fragment}
use Rattle.graphql_nodes.specs.declared.nodes.Node.{Node}
use Rattle.graphql_documents.proofs.ListLemmas.{done_next, each_standing}
use Rattle.graphql_operations.proofs.UsedFragmentLemmas.{unused_kept, unused_then}
use Rattle.graphql_operations.proofs.fragments_used.report_unused.Goals as goal

pub loop-fragment-init : goal.loop-fragment-init
loop-fragment-init c = record {
  can_next = tt;
  is_finite = tt;
  done = [];
  all = let e : values c.args.document.now.fragments ≡ c.into_iter-fragment-iterator.result = cc in e;
  reported = λ used. record { added = []; appended = sym (append-nil _); are = no_fragment };
}

pub loop-fragment-preserved : goal.loop-fragment-preserved
loop-fragment-preserved c =
    let document = c.args.document.now in
    let x : Node Fragment = c.in-Some.fragment.now in
    let done = c.loop-fragment.invariant.done in
    let next : c.loop-fragment.fragment-iterator ≡ x ∷ c.next.new.self = c.in-Some.ensures.steps in
    record {
      can_next = tt;
      is_finite = tt;
      done = done ++ x ∷ [];
      all = done_next _ done c.loop-fragment.fragment-iterator c.next.new.self x c.loop-fragment.invariant.all next;
      reported = λ used. unused_then document (c.loop-fragment.invariant.reported used) (c.in_ok-check_use.ensures document used);
    }

pub returns-in_err-check_use : goal.returns-in_err-check_use
returns-in_err-check_use c = λ used.
    let document = c.args.document.now in
    let done = c.loop-fragment.invariant.done in
    let defined : All (Contains (values document.fragments)) done =
    each_standing (Contains (values document.fragments)) done
    (λ d there. subst (λ l. Contains l d) (sym c.loop-fragment.invariant.all) (Contains-append_left done c.loop-fragment.fragment-iterator d there)) in
    let kept = unused_kept document defined (c.loop-fragment.invariant.reported used) in
    MatchResult-from_err c.from_residual.result _ _ c.from_residual.ensures.0
    (λ e. subst (KeepsReports (λ e. FragmentUseReport document e.details e.location) (entries c.args.diagnostics.now))
    (sym (c.in_err-check_use.ensures document used)) kept)

pub returns : goal.returns
returns c = λ used.
    let document = c.args.document.now in
    let done : values document.fragments ≡ c.loop-fragment.invariant.done =
    c.loop-fragment.invariant.all ∙ ap (λ l. c.loop-fragment.invariant.done ++ l) c.in-None.ensures.steps.0 ∙ append-nil c.loop-fragment.invariant.done in
    subst (λ l. Appends (AreUnusedFragmentReports document l) (entries c.args.diagnostics.now) (entries c.loop-fragment.diagnostics)) (sym done)
    (c.loop-fragment.invariant.reported used)
