use Rattle.std.proofs.Common.{◌∙◌, [], rules, sym}
use Rattle.std.specs.Prelude.{◌≢◌, Contains}
use Rattle.std.proofs.lemmas.List.Elements.{All-contains_itself}
use Rattle.graphql_building_reports.specs.Checks.{reports_of}
use Rattle.graphql_project_checking.specs.Truth.{AreOfBuilding}
use Rattle.graphql_project_checking.proofs.SilenceLemmas.{not_nil}
use Rattle.graphql_project_checking.proofs.TruthLemmas.{adds_one}
use Rattle.graphql_project_checking.proofs.building.add_first.Goals as goal

pub returns : goal.returns
returns c =
    let list = reports_of c.args.reports in
    let some : reports_of c.args.reports ≢ [] = search rules in
    record {
      some = λ none. not_nil c.args.found.now.items _ (sym c.in_ok-push.ensures.items ∙ none);
      truth = adds_one (AreOfBuilding (Contains list)) c.args.found.now.items c.push.new.self.items _ c.in_ok-push.ensures.items (some, All-contains_itself list);
    }
