use Rattle.std.proofs.Common.{Option, Some, refl, subst, sym}
use Rattle.graphql_diagnostics.proofs.ReportLemmas.{checks-err, checks-push, kept}
use Rattle.graphql_nodes.specs.Names.{NameText}
use Rattle.graphql_specification.specs.Fragments.{ImpossibleReport, impossible_use}
use Rattle.graphql_diagnostics.specs.declared.data.DiagnosticData.TheVariants as report
use Rattle.graphql_operations.specs.FragmentUses.{name_of_use, place_of_fragment, place_of_use}
use Rattle.graphql_operations.proofs.spread_types.report_impossible.Goals as goal

pub returns-in_err-name : goal.returns-in_err-name
returns-in_err-name c = λ schema defined impossible. checks-err _ _ _ _ _ c.from_residual.ensures.0 (kept _ _)

pub returns-in_err-type_condition : goal.returns-in_err-type_condition
returns-in_err-type_condition c = λ schema defined impossible. checks-err _ _ _ _ _ c.from_residual-in_err-type_condition.ensures.0 (kept _ _)

pub returns-in_err-type_name : goal.returns-in_err-type_name
returns-in_err-type_name c = λ schema defined impossible. checks-err _ _ _ _ _ c.from_residual-in_err-type_name.ensures.0 (kept _ _)

pub returns : goal.returns
returns c = λ schema defined impossible.
    let used = c.args.fragment_use in
    let condition = c.args.condition.now in
    let parent = c.args.parent.now in
    let says = λ (name : Option NameText).
    ImpossibleReport (Some schema) (name_of_use used) condition (Some parent) (place_of_fragment used) (place_of_use used)
    (report.InvalidFragmentSpread name c.in_ok-type_condition.type_condition c.in_ok-type_name.type_name c.fragment_location.result c.location-2.result)
    c.location.result in
    checks-push _ _ _ _ _ _ c.push.ensures.ok c.push.ensures.err impossible
    (subst says (sym c.in_ok-name.ensures) (impossible_use (record {
      against = schema;
      ty = parent;
      definition = c.args.around.now;
      has_schema = refl;
      parent_is = refl;
      impossible = impossible;
      defined = defined;
      type_condition_is = c.in_ok-type_condition.ensures.cases;
      type_name_is = c.in_ok-type_name.ensures.cases;
      fragment_location_is = c.fragment_location.ensures;
      type_location_is = c.location-2.ensures;
      at_is = c.location.ensures;
    })))
