use Rattle.std.proofs.Common.{◌≡◌, [], rules}
use Rattle.std.specs.Prelude.{◌≢◌, Contains}
use Rattle.std.proofs.lemmas.List.Elements.{All-contains_itself}
use Rattle.graphql_building_reports.specs.Checks.{reports_of}
use Rattle.graphql_project_checking.specs.Truth.{AreOfBuilding}
use Rattle.graphql_project_checking.proofs.SilenceLemmas.{is_not_silent, stays_silent}
use Rattle.graphql_project_checking.proofs.TruthLemmas.{adds_nothing, adds_one}
use Rattle.graphql_project_checking.proofs.building.add_all.Goals as goal

pub returns-then-is_empty : goal.returns-then-is_empty
returns-then-is_empty c =
    let none : reports_of c.args.reports ≡ [] = search rules in
    record {
      silence = stays_silent c.args.found.now.items (reports_of c.args.reports ≡ []) none;
      truth = adds_nothing (AreOfBuilding (Contains (reports_of c.args.reports))) c.args.found.now.items;
    }

pub returns : goal.returns
returns c =
    let list = reports_of c.args.reports in
    let some : reports_of c.args.reports ≢ [] = search rules in
    record {
      silence = is_not_silent c.args.found.now.items c.push.new.self.items _ (list ≡ []) c.in_ok-push.ensures.items;
      truth = adds_one (AreOfBuilding (Contains list)) c.args.found.now.items c.push.new.self.items _ c.in_ok-push.ensures.items (some, All-contains_itself list);
    }
