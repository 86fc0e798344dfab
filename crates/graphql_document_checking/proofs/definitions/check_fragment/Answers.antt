use Rattle.std.proofs.Common.{rules, ◌≡◌, ◌↔◌, Some, None, IsFalse, IsTrue, sym, subst}
use Rattle.graphql_diagnostics.proofs.ReportLemmas.{checks-push, checks_words}
use Rattle.graphql_documents.specs.Schemas.{is_composite, type_definition}
use Rattle.graphql_building_reports.specs.Checks.{reports_of}
use Rattle.graphql_building_reports.specs.declared.lists.BuildingReport.{BuildingReport}
use Rattle.graphql_document_building.specs.BuildingRules.{FragmentBuilds, SelectionsBuild}
use Rattle.graphql_document_building.specs.Trees.{is_type_composite}
use Rattle.graphql_document_checking.specs.DefinitionReports.{IsFragmentReport, has_invalid_target, lacks_target, of_fragment_selection}
use Rattle.graphql_document_checking.specs.Reports.{IsSelectionReport}
use Rattle.graphql_document_checking.proofs.CheckLemmas.{undefined_is_not_composite}
use Rattle.graphql_document_checking.proofs.definitions.check_fragment.Goals as goal

pub returns-then-not-is_composite : goal.returns-then-not-is_composite
returns-then-not-is_composite c =
    let schema = c.args.schema.now in
    let x = c.args.tree.now in
    let d = c.in-Some.definition.now in
    let there : type_definition schema x.type_condition ≡ Some d = search rules in
    let not_composite : IsFalse (is_composite d) = search rules in
    checks-push c.report_invalid_target.result (FragmentBuilds schema x) (IsFragmentReport schema x) (reports_of c.args.reports.now) (reports_of c.report_invalid_target.new.reports) _
    c.report_invalid_target.ensures.ok c.report_invalid_target.ensures.err
    (λ b. let has = b.composite in let composite : IsTrue (is_composite d) = rw there at has in let no : ⊥ = cc in no) (has_invalid_target d there not_composite)

pub returns-else-not-is_composite : goal.returns-else-not-is_composite
returns-else-not-is_composite c =
    let schema = c.args.schema.now in
    let x = c.args.tree.now in
    let d = c.in-Some.definition.now in
    let there : type_definition schema x.type_condition ≡ Some d = search rules in
    let is : IsTrue (is_composite d) = search rules in
    let composite : IsTrue (is_type_composite schema x.type_condition) = rw there is in
    let builds : SelectionsBuild schema x.type_condition c.as_slice-selections.result.now ↔ FragmentBuilds schema x = (
      λ s. record { composite = composite; selections = subst (SelectionsBuild schema x.type_condition) c.as_slice-selections.ensures s },
      λ b. subst (SelectionsBuild schema x.type_condition) (sym c.as_slice-selections.ensures) b.selections,
    ) in
    let report : (r : BuildingReport) → IsSelectionReport schema x.type_condition c.as_slice-selections.result.now r → IsFragmentReport schema x r =
    λ r q. of_fragment_selection composite (subst (λ xs. IsSelectionReport schema x.type_condition xs r) c.as_slice-selections.ensures q) in
    checks_words c.check_selections.result _ _ _ _ (reports_of c.args.reports.now) (reports_of c.check_selections.new.reports) builds report c.check_selections.ensures

pub returns-in-None : goal.returns-in-None
returns-in-None c =
    let schema = c.args.schema.now in
    let x = c.args.tree.now in
    let none : type_definition schema x.type_condition ≡ None = search rules in
    checks-push c.report_undefined_condition.result (FragmentBuilds schema x) (IsFragmentReport schema x) (reports_of c.args.reports.now) (reports_of c.report_undefined_condition.new.reports) _
    c.report_undefined_condition.ensures.ok c.report_undefined_condition.ensures.err
    (λ b. undefined_is_not_composite schema x.type_condition none b.composite) (lacks_target none)
