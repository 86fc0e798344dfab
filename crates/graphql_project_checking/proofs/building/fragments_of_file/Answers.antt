use Rattle.std.proofs.Common.{◌≡◌, ◌∙◌, [], Some, subst}
use Rattle.std.specs.Prelude.{All, IsOk}
use Rattle.graphql_building_reports.specs.Checks.{reports_of}
use Rattle.graphql_document_checking.specs.BuildingRules.{DefinitionBuilds}
use Rattle.graphql_document_checking.specs.DefinitionReports.{IsReportOfDefinitions}
use Rattle.graphql_document_checking.specs.DocumentReports.{DocumentBuildingReport}
use Rattle.graphql_project_checking.specs.Silence.{OthersBuild}
use Rattle.graphql_project_checking.proofs.LentLemmas.{reports_of_others}
use Rattle.graphql_project_checking.proofs.SilenceLemmas.{checked_holds, silent_so}
use Rattle.graphql_project_checking.proofs.TruthLemmas.{each_checked, of_building_list}
use Rattle.graphql_project_checking.proofs.building.fragments_of_file.Goals as goal

pub returns : goal.returns
returns c =
    let s = c.args.building.schema.now in
    let checked = c.check_definitions-checked.result in
    let reports = c.check_definitions-checked.new.reports in
    let trees = c.as_slice.ensures ∙ c.in_ok-parts.ensures.others in
    let each : All (IsReportOfDefinitions (Some s) c.as_slice.result.now) (reports_of reports) =
    each_checked checked _ _ _ _ c.check_definitions-checked.ensures c.new_list-reports.ensures in
    record {
      silence = silent_so c.args.found.now.items c.add_reports.new.found.items (IsOk checked × (reports_of reports ≡ [])) (OthersBuild s c.args.document)
          (λ h. subst (All (DefinitionBuilds (Some s))) trees
          (checked_holds checked _ _ _ _ c.check_definitions-checked.ensures c.new_list-reports.ensures h.0 h.1)) c.in_ok-add_reports.ensures.silence;
      truth = of_building_list c.args.found.now.items c.add_reports.new.found.items (DocumentBuildingReport (Some s) c.args.document) (reports_of reports)
          (reports_of_others (Some s) c.args.document (reports_of reports) (subst (λ l. All (IsReportOfDefinitions (Some s) l) (reports_of reports)) trees each))
          c.in_ok-add_reports.ensures.truth;
      fragments = c.in_ok-parts.ensures.fragments;
    }
