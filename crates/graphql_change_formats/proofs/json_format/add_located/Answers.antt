use Rattle.std.proofs.Common.{◌≡◌, [], ◌∷◌, ◌++◌, rules}
use Rattle.std.proofs.lemmas.Result.{on_ok_weaker}
use Rattle.json.specs.Token.{begin_object, end_object, key}
use Rattle.graphql_report_formats.specs.NamedTexts.{part}
use Rattle.graphql_change_formats.specs.ChangeJson.{place_members}
use Rattle.graphql_change_formats.proofs.ChangeLemmas.{joined}
use Rattle.graphql_change_formats.proofs.json_format.add_located.Goals as goal

pub returns : goal.returns
returns c =
    let old = c.args.json.now.tokens in
    let named = c.key.new.self.tokens in
    let begun = c.begin_object.new.self.tokens in
    let with_members = c.add_members.new.json.tokens in
    let ended = c.end_object.new.self.tokens in
    let members = place_members (part c.args.located) in
    let end = end_object ∷ [] in
    record {
      before = search rules;
      appended = on_ok_weaker {P = ended ≡ with_members ++ end} c.end_object.result
          (λ e. joined old named ended (key c.args.name.now ∷ []) (begin_object ∷ (members ++ end)) c.in_ok-key.ensures.ok
          (joined named begun ended (begin_object ∷ []) (members ++ end) c.in_ok-begin_object.ensures.ok
          (joined begun with_members ended members end c.in_ok-add_members.ensures.appended e)))
          c.end_object.ensures.ok;
    }
