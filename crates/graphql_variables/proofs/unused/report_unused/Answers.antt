use Rattle.std.proofs.Common.{◌≡◌, ◌∙◌, ◌++◌, [], ◌∷◌, sym, ap, subst, Contains}
use Rattle.std.proofs.lemmas.List.{append-nil, map-append}
use Rattle.std.proofs.lemmas.List.Elements.{All-contains}
use Rattle.std.proofs.lemmas.Result.{MatchResult-from_err}
use Rattle.graphql_diagnostics.specs.Diagnostics.{IsDiagnostic, entries}
use Rattle.graphql_diagnostics.specs.Reports.{Appends, KeepsReports}
use Rattle.graphql_specification.specs.Variables.{AreUnusedReports, UsesReport, no_name}
use Rattle.graphql_documents.proofs.ListLemmas.{done_next, stands_next}
use Rattle.graphql_variables.proofs.NameSetLemmas.{entry_names}
use Rattle.graphql_variables.proofs.UnusedLemmas.{IsLast, LastEntry, appends_kept, appends_then}
use Rattle.graphql_variables.proofs.unused.report_unused.Goals as goal

pub loop-variable-init : goal.loop-variable-init
loop-variable-init c = record {
  can_next = tt;
  is_finite = tt;
  done = [];
  all = sym c.into_iter-variable-iterator.ensures.into_iter_gives.0;
  reported = λ fragments o used last. record { added = []; appended = sym (append-nil _); are = no_name };
}

pub loop-variable-preserved : goal.loop-variable-preserved
loop-variable-preserved c =
    let x : LastEntry = (c.in-Some.field-0-0.now, c.in-Some.variable.now) in
    let done = c.loop-variable.invariant.done in
    let next : c.loop-variable.variable-iterator ≡ x ∷ c.next.new.self = c.in-Some.ensures.steps in
    let among : Contains c.args.variables.now.entries x = stands_next _ done c.loop-variable.variable-iterator c.next.new.self x c.loop-variable.invariant.all next in
    record {
      can_next = tt;
      is_finite = tt;
      done = done ++ x ∷ [];
      all = done_next _ done c.loop-variable.variable-iterator c.next.new.self x c.loop-variable.invariant.all next;
      reported = λ fragments o used last.
          subst (λ names. Appends (AreUnusedReports fragments o names) (entries c.args.diagnostics.now) (entries c.check_use.new.diagnostics))
          (sym (map-append (λ (e : LastEntry). e.0.now) done (x ∷ [])))
          (appends_then (c.loop-variable.invariant.reported fragments o used last)
          (c.in_ok-check_use.ensures fragments o x.0.now used (All-contains (IsLast o.variables.items) c.args.variables.now.entries x last among)));
    }

pub returns-in_err-check_use : goal.returns-in_err-check_use
returns-in_err-check_use c = λ fragments o used last.
    let x : LastEntry = (c.in-Some.field-0-0.now, c.in-Some.variable.now) in
    let done = c.loop-variable.invariant.done in
    let next : c.loop-variable.variable-iterator ≡ x ∷ c.next.new.self = c.in-Some.ensures.steps in
    let among : Contains c.args.variables.now.entries x = stands_next _ done c.loop-variable.variable-iterator c.next.new.self x c.loop-variable.invariant.all next in
    let is_last = All-contains (IsLast o.variables.items) c.args.variables.now.entries x last among in
    let kept = appends_kept (c.loop-variable.invariant.reported fragments o used last) in
    MatchResult-from_err c.from_residual.result _ _ c.from_residual.ensures.0
    (λ e. subst (KeepsReports (IsDiagnostic (UsesReport fragments o)) (entries c.args.diagnostics.now)) (sym (c.in_err-check_use.ensures fragments o x.0.now used is_last)) kept)

pub returns : goal.returns
returns c = λ fragments o used last.
    let done : c.args.variables.now.entries ≡ c.loop-variable.invariant.done =
    c.loop-variable.invariant.all ∙ ap (λ l. c.loop-variable.invariant.done ++ l) c.in-None.ensures.steps.0 ∙ append-nil c.loop-variable.invariant.done in
    subst (λ l. Appends (AreUnusedReports fragments o (entry_names l)) (entries c.args.diagnostics.now) (entries c.loop-variable.diagnostics)) (sym done)
    (c.loop-variable.invariant.reported fragments o used last)
