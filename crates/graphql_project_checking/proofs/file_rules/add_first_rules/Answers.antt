use Rattle.std.proofs.Common.{[], rules}
use Rattle.std.specs.Prelude.{◌≢◌, Contains}
use Rattle.std.proofs.lemmas.List.Elements.{All-contains_itself}
use Rattle.graphql_diagnostics.specs.Diagnostics.{entries}
use Rattle.graphql_project_checking.specs.Truth.{AreOfRules}
use Rattle.graphql_project_checking.proofs.SilenceLemmas.{is_not_quiet}
use Rattle.graphql_project_checking.proofs.TruthLemmas.{adds_one}
use Rattle.graphql_project_checking.proofs.file_rules.add_first_rules.Goals as goal

pub returns : goal.returns
returns c =
    let list = entries c.args.rules in
    let some : entries c.args.rules ≢ [] = search rules in
    record {
      some = is_not_quiet c.args.found.now.items c.push.new.self.items _ c.in_ok-push.ensures.items (λ off only. only);
      truth = adds_one (AreOfRules (Contains list)) c.args.found.now.items c.push.new.self.items _ c.in_ok-push.ensures.items (some, All-contains_itself list);
    }
