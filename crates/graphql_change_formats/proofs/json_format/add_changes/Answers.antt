use Rattle.std.proofs.Common.{◌≡◌, [], ◌∷◌, ◌++◌, codes, refl, rules}
use Rattle.std.proofs.lemmas.Result.{on_ok_weaker}
use Rattle.json.specs.Token.{begin_array, end_array, key}
use Rattle.graphql_change_formats.proofs.ChangeLemmas.{joined}
use Rattle.graphql_change_formats.proofs.json_format.add_changes.Goals as goal

pub returns : goal.returns
returns c =
    let old = c.args.json.now.tokens in
    let named = c.key.new.self.tokens in
    let begun = c.begin_array.new.self.tokens in
    let with_changes = c.add_each.new.json.tokens in
    let ended = c.end_array.new.self.tokens in
    let each = c.in_ok-add_each.ensures.appended in
    let end = end_array ∷ [] in
    record {
      before = search rules;
      appended = on_ok_weaker {P = ended ≡ with_changes ++ end} c.end_array.result
          (λ e. (
            key (codes "changes") ∷ begin_array ∷ (each.0 ++ end),
            (each.0, each.1, refl),
            joined old named ended (key (codes "changes") ∷ []) (begin_array ∷ (each.0 ++ end)) c.in_ok-key.ensures.ok
                (joined named begun ended (begin_array ∷ []) (each.0 ++ end) c.in_ok-begin_array.ensures.ok
                (joined begun with_changes ended each.0 end each.2 e)),
          ))
          c.end_array.ensures.ok;
    }
