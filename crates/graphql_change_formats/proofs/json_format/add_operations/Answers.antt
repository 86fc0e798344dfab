use Rattle.std.proofs.Common.{◌≡◌, [], ◌∷◌, ◌++◌, codes, rules}
use Rattle.std.proofs.lemmas.Result.{on_ok_weaker}
use Rattle.json.specs.Token.{begin_object, end_object, key}
use Rattle.graphql_change_formats.specs.ChangeJson.{broken_member, count_members}
use Rattle.graphql_change_formats.proofs.ChangeLemmas.{joined}
use Rattle.graphql_change_formats.proofs.json_format.add_operations.Goals as goal

pub returns : goal.returns
returns c =
    let old = c.args.json.now.tokens in
    let named = c.key.new.self.tokens in
    let begun = c.begin_object.new.self.tokens in
    let with_counts = c.add_counts.new.json.tokens in
    let with_broken = c.add_broken.new.json.tokens in
    let ended = c.end_object.new.self.tokens in
    let counts = count_members c.args.documents c.args.invalid_before in
    let broken = broken_member c.args.broken.now in
    let end = end_object ∷ [] in
    record {
      before = search rules;
      appended = on_ok_weaker {P = ended ≡ with_broken ++ end} c.end_object.result
          (λ e. joined old named ended (key (codes "operations") ∷ []) (begin_object ∷ (counts ++ (broken ++ end))) c.in_ok-key.ensures.ok
          (joined named begun ended (begin_object ∷ []) (counts ++ (broken ++ end)) c.in_ok-begin_object.ensures.ok
          (joined begun with_counts ended counts (broken ++ end) c.in_ok-add_counts.ensures.appended
          (joined with_counts with_broken ended broken end c.in_ok-add_broken.ensures.appended e))))
          c.end_object.ensures.ok;
    }
