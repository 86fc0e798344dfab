use Rattle.std.proofs.Common.{◌≡◌, [], ◌∷◌, ◌++◌, codes, rules}
use Rattle.std.proofs.lemmas.Result.{on_ok_weaker}
use Rattle.json.specs.Token.{begin_array, end_array, key}
use Rattle.graphql_change_formats.specs.ChangeJson.{path_strings}
use Rattle.graphql_change_formats.proofs.ChangeLemmas.{joined}
use Rattle.graphql_change_formats.proofs.json_format.add_broken.Goals as goal

pub returns : goal.returns
returns c =
    let old = c.args.json.now.tokens in
    let named = c.key.new.self.tokens in
    let begun = c.begin_array.new.self.tokens in
    let with_paths = c.add_paths.new.json.tokens in
    let ended = c.end_array.new.self.tokens in
    let paths = path_strings c.args.broken.now in
    let end = end_array ∷ [] in
    record {
      before = search rules;
      appended = on_ok_weaker {P = ended ≡ with_paths ++ end} c.end_array.result
          (λ e. joined old named ended (key (codes "broken") ∷ []) (begin_array ∷ (paths ++ end)) c.in_ok-key.ensures.ok
          (joined named begun ended (begin_array ∷ []) (paths ++ end) c.in_ok-begin_array.ensures.ok
          (joined begun with_paths ended paths end c.in_ok-add_paths.ensures.appended e)))
          c.end_array.ensures.ok;
    }
