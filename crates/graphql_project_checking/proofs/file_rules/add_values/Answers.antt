use Rattle.std.proofs.Common.{◌≡◌, []}
use Rattle.std.specs.Prelude.{Contains}
use Rattle.std.proofs.lemmas.List.Elements.{All-contains_itself}
use Rattle.graphql_project_checking.specs.Truth.{AreOfInputFields}
use Rattle.graphql_project_checking.proofs.SilenceLemmas.{no_items, quiet_one, stays_quiet}
use Rattle.graphql_project_checking.proofs.TruthLemmas.{adds_nothing, adds_one, some_items}
use Rattle.graphql_project_checking.proofs.file_rules.add_values.Goals as goal

pub returns-then-is_empty : goal.returns-then-is_empty
returns-then-is_empty c =
    let none = no_items c.args.input_fields c.is_empty.result c.is_empty.ensures c.if-is_empty.true in
    record {
      silence = stays_quiet c.args.found.now.items (λ off. c.args.input_fields.items ≡ []) (λ off. none);
      truth = adds_nothing (AreOfInputFields (Contains c.args.input_fields.items)) c.args.found.now.items;
    }

pub returns : goal.returns
returns c =
    let list = c.args.input_fields.items in
    let some = some_items c.args.input_fields c.is_empty.result c.is_empty.ensures c.if-is_empty.false in
    record {
      silence = quiet_one c.args.found.now.items c.push.new.self.items _ (λ off. list ≡ []) c.in_ok-push.ensures.items (λ off only. only.2);
      truth = adds_one (AreOfInputFields (Contains list)) c.args.found.now.items c.push.new.self.items _ c.in_ok-push.ensures.items
          (c.with_hash_seed.ensures.empty, c.new.ensures.items, some, All-contains_itself list, c.new-2.ensures.items);
    }
