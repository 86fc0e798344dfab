use Rattle.std.proofs.Common.{◌≡◌, [], rules}
use Rattle.std.specs.Prelude.{◌≢◌, All, None, Some}
use Rattle.graphql_building_reports.specs.Checks.{reports_of}
use Rattle.graphql_document_checking.specs.DocumentReports.{DocumentBuildingReport}
use Rattle.graphql_project_checking.specs.Silence.{BuildsTo}
use Rattle.graphql_project_checking.specs.Truth.{AreOfBuilding}
use Rattle.graphql_project_checking.proofs.SilenceLemmas.{holds_of, is_not_silent, stays_silent}
use Rattle.graphql_project_checking.proofs.TruthLemmas.{adds_nothing, adds_one, each_checked, of_building_list}
use Rattle.graphql_project_checking.proofs.building.build_file.Goals as goal

pub build_document-requires : goal.build_document-requires
build_document-requires c =
    let none : reports_of c.check_document.new.reports ≡ [] = search rules in
    holds_of _ _ _ _ c.in-Ok.ensures c.new_list-reports.ensures none

pub returns-then-is_empty : goal.returns-then-is_empty
returns-then-is_empty c =
    let none : reports_of c.check_document.new.reports ≡ [] = search rules in
    record {
      silence = stays_silent c.args.found.now.items (BuildsTo c.args.building.schema.now c.args.document.now (Some c.in_ok-file-in-Ok.file))
          (holds_of _ _ _ _ c.in-Ok.ensures c.new_list-reports.ensures none, c.in_ok-file-in-Ok.ensures.says);
      truth = adds_nothing (AreOfBuilding (DocumentBuildingReport (Some c.args.building.schema.now) c.args.document.now)) c.args.found.now.items;
    }

pub returns-in_ok-push-in-Ok : goal.returns-in_ok-push-in-Ok
returns-in_ok-push-in-Ok c =
    let list = reports_of c.check_document.new.reports in
    let True = DocumentBuildingReport (Some c.args.building.schema.now) c.args.document.now in
    let some : reports_of c.check_document.new.reports ≢ [] = search rules in
    let each : All True list = each_checked c.check_document.result _ _ _ _ c.check_document.ensures c.new_list-reports.ensures in
    record {
      silence = is_not_silent c.args.found.now.items c.push.new.self.items _ (BuildsTo c.args.building.schema.now c.args.document.now None) c.in_ok-push-in-Ok.ensures.items;
      truth = adds_one (AreOfBuilding True) c.args.found.now.items c.push.new.self.items _ c.in_ok-push-in-Ok.ensures.items (some, each);
    }

pub returns-in_ok-add_first-in-Err : goal.returns-in_ok-add_first-in-Err
returns-in_ok-add_first-in-Err c =
    let list = reports_of c.check_document.new.reports in
    let True = DocumentBuildingReport (Some c.args.building.schema.now) c.args.document.now in
    let each : All True list = each_checked c.check_document.result _ _ _ _ c.check_document.ensures c.new_list-reports.ensures in
    record {
      silence = λ none. absurd (c.in_ok-add_first-in-Err.ensures.some none);
      truth = of_building_list c.args.found.now.items c.add_first.new.found.items True list each c.in_ok-add_first-in-Err.ensures.truth;
    }
