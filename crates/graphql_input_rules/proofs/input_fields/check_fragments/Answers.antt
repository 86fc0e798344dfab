use Rattle.std.proofs.Common.{◌≡◌, subst}
use Rattle.indexmap.specs.IndexMap.{values}
use Rattle.graphql_nodes.specs.declared.nodes.Node.{Node}
use Rattle.graphql_documents.specs.declared.documents.executables.Fragment.{Fragment}
use Rattle.graphql_documents.specs.declared.documents.values.Value.{Value}
use Rattle.graphql_diagnostics.specs.Reports.{KeepsReports}
use Rattle.graphql_input_rules.specs.InputFields.{FieldReport}
use Rattle.graphql_input_rules.specs.ValuesWritten.{FragmentWrites}
use Rattle.graphql_input_rules.proofs.PlaceLemmas.{Reported, walk_begins, walk_ends, walk_goes_on, walk_refused}
use Rattle.graphql_input_rules.proofs.input_fields.check_fragments.Goals as goal

abbrev In : Node Fragment → Value → Type 0
In x v = FragmentWrites x.value.value v

pub loop-fragment-init : goal.loop-fragment-init
loop-fragment-init c =
    let all = values c.args.fragments.now in
    let same : all ≡ c.into_iter-fragment-iterator.result = cc in
    record { can_next = tt; is_finite = tt; walk = walk_begins In all c.into_iter-fragment-iterator.result c.args.reports.now.kept.items same }

pub loop-fragment-preserved : goal.loop-fragment-preserved
loop-fragment-preserved c =
    let all = values c.args.fragments.now in
    let mid = c.loop-fragment.reports.kept.items in
    let new = c.check_fragment.new.reports.kept.items in
    record {
      can_next = tt;
      is_finite = tt;
      walk = walk_goes_on In all c.loop-fragment.fragment-iterator c.next.new.self c.in-Some.fragment.now c.args.reports.now.kept.items mid new c.in-Some.ensures.steps c.loop-fragment.invariant.walk
          (subst (λ x. Reported (FragmentWrites x) mid new) (c.deref.ensures) c.in_ok-check_fragment.ensures);
    }

pub returns-in_err-check_fragment : goal.returns-in_err-check_fragment
returns-in_err-check_fragment c =
    let all = values c.args.fragments.now in
    let mid = c.loop-fragment.reports.kept.items in
    let new = c.check_fragment.new.reports.kept.items in
    walk_refused In all c.loop-fragment.fragment-iterator c.next.new.self c.in-Some.fragment.now c.args.reports.now.kept.items mid new c.in-Some.ensures.steps c.loop-fragment.invariant.walk
    c.from_residual.result c.from_residual.ensures.0
    (subst (λ x. KeepsReports (FieldReport (FragmentWrites x)) mid new) (c.deref.ensures) c.in_err-check_fragment.ensures)

pub returns : goal.returns
returns c = walk_ends In (values c.args.fragments.now) c.loop-fragment.fragment-iterator c.args.reports.now.kept.items c.loop-fragment.reports.kept.items c.in-None.ensures.steps.0 c.loop-fragment.invariant.walk
