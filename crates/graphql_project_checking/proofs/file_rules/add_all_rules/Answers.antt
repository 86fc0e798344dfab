use Rattle.std.proofs.Common.{◌≡◌, [], rules, subst, sym}
use Rattle.std.specs.Prelude.{◌≢◌, All, Contains}
use Rattle.std.proofs.lemmas.List.Elements.{All-contains_itself, All-nil}
use Rattle.graphql_diagnostics.specs.Diagnostics.{entries}
use Rattle.graphql_frontend.specs.RuleSets.{NamesRuleIn}
use Rattle.graphql_project_checking.specs.Truth.{AreOfRules}
use Rattle.graphql_project_checking.proofs.SilenceLemmas.{quiet_one, stays_quiet}
use Rattle.graphql_project_checking.proofs.TruthLemmas.{adds_nothing, adds_one}
use Rattle.graphql_project_checking.proofs.file_rules.add_all_rules.Goals as goal

pub returns-then-is_empty : goal.returns-then-is_empty
returns-then-is_empty c =
    let none : entries c.args.rules ≡ [] = search rules in
    record {
      silence = stays_quiet c.args.found.now.items (λ off. All (λ e. NamesRuleIn off e.details) (entries c.args.rules))
          (λ off. subst (All (λ e. NamesRuleIn off e.details)) (sym none) (All-nil (λ e. NamesRuleIn off e.details)));
      truth = adds_nothing (AreOfRules (Contains (entries c.args.rules))) c.args.found.now.items;
    }

pub returns : goal.returns
returns c =
    let list = entries c.args.rules in
    let some : entries c.args.rules ≢ [] = search rules in
    record {
      silence = quiet_one c.args.found.now.items c.push.new.self.items _ (λ off. All (λ e. NamesRuleIn off e.details) list) c.in_ok-push.ensures.items (λ off only. only.0);
      truth = adds_one (AreOfRules (Contains list)) c.args.found.now.items c.push.new.self.items _ c.in_ok-push.ensures.items
          (some, All-contains_itself list, c.new.ensures.items, c.new-2.ensures.items, c.new-3.ensures.items);
    }
