use Rattle.std.proofs.Common.{◌≡◌, [], refl}
use Rattle.graphql_project_checking.specs.Truth.{HasErrors}
use Rattle.graphql_project_checking.proofs.SilenceLemmas.{is_not_silent, no_items, stays_silent}
use Rattle.graphql_project_checking.proofs.TruthLemmas.{adds_nothing, adds_one, some_items}
use Rattle.graphql_project_checking.proofs.texts.add_errors.Goals as goal

pub returns-then-is_empty : goal.returns-then-is_empty
returns-then-is_empty c =
    let none = no_items c.args.errors c.is_empty.result c.is_empty.ensures c.if-is_empty.true in
    record {
      silence = stays_silent c.args.found.now.items (c.args.errors.items ≡ []) none;
      truth = adds_nothing (HasErrors c.args.errors.items) c.args.found.now.items;
    }

pub returns : goal.returns
returns c =
    let some = some_items c.args.errors c.is_empty.result c.is_empty.ensures c.if-is_empty.false in
    record {
      silence = is_not_silent c.args.found.now.items c.push.new.self.items _ (c.args.errors.items ≡ []) c.in_ok-push.ensures.items;
      truth = adds_one (HasErrors c.args.errors.items) c.args.found.now.items c.push.new.self.items _ c.in_ok-push.ensures.items (some, refl);
    }
