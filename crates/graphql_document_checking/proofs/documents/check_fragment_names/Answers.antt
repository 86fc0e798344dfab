use Rattle.std.proofs.Common.{◌≡◌, ◌∙◌, ap, subst}
use Rattle.graphql_nodes.specs.Names.{AreDistinct}
use Rattle.graphql_diagnostics.proofs.ReportLemmas.{ChecksList}
use Rattle.graphql_building_reports.specs.Checks.{reports_of}
use Rattle.graphql_building_reports.specs.declared.rules.BuildingRule.TheVariants as rule
use Rattle.graphql_repetitions.specs.References.{nows}
use Rattle.graphql_repetitions.specs.Repetitions.{RepetitionReport}
use Rattle.graphql_document_checking.specs.DocumentReports.{fragment_names}
use Rattle.graphql_document_checking.proofs.documents.check_fragment_names.Goals as goal

pub returns : goal.returns
returns c =
    let names : nows c.deref.result.now ≡ fragment_names c.args.tree.now.definitions = ap nows c.deref.ensures.value ∙ c.in_ok-names.ensures ∙ ap fragment_names c.as_slice.ensures in
    subst (λ l. ChecksList c.check_repetitions.result (AreDistinct l) (RepetitionReport l rule.FragmentNameCollision)
    (reports_of c.args.reports.now) (reports_of c.check_repetitions.new.reports)) names c.check_repetitions.ensures
