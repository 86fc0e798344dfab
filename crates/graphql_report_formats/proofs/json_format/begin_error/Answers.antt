use Rattle.std.proofs.Common.{◌≡◌, [], ◌∷◌, ◌++◌, codes, rules}
use Rattle.std.specs.Option.{option_map}
use Rattle.std.proofs.lemmas.Result.{on_ok_weaker}
use Rattle.json.specs.Token.{begin_object, key}
use Rattle.graphql_report_formats.specs.JsonReports.{file_of, locations, span, text_member}
use Rattle.graphql_report_formats.specs.NamedTexts.{part, path_of}
use Rattle.graphql_report_formats.proofs.JsonLemmas.{joined}
use Rattle.graphql_report_formats.proofs.json_format.begin_error.Goals as goal

pub returns : goal.returns
returns c =
    let old = c.args.json.now.tokens in
    let opened = c.begin_object.new.self.tokens in
    let with_message = c.add_text.new.json.tokens in
    let with_locations = c.add_locations.new.json.tokens in
    let named = c.key.new.self.tokens in
    let begun = c.begin_object-2.new.self.tokens in
    let with_file = c.add_file_of.new.json.tokens in
    let with_rule = c.add_text-2.new.json.tokens in
    let ended = c.add_span.new.json.tokens in
    let at = option_map part c.args.located in
    let message = text_member (codes "message") c.args.message.now in
    let places = locations at in
    let path = file_of at (path_of c.args.path) in
    let rule = text_member (codes "rule") c.args.rule.now in
    let bytes = span at in
    let members = path ++ (rule ++ bytes) in
    let more = key (codes "extensions") ∷ begin_object ∷ members in
    record {
      before = search rules;
      appended = on_ok_weaker {P = ended ≡ with_rule ++ bytes} c.add_span.result
          (λ e. joined old opened ended (begin_object ∷ []) (message ++ (places ++ more)) c.in_ok-begin_object.ensures.ok
          (joined opened with_message ended message (places ++ more) c.in_ok-add_text.ensures.appended
          (joined with_message with_locations ended places more c.in_ok-add_locations.ensures.appended
          (joined with_locations named ended (key (codes "extensions") ∷ []) (begin_object ∷ members) c.in_ok-key.ensures.ok
          (joined named begun ended (begin_object ∷ []) members c.in_ok-begin_object-2.ensures.ok
          (joined begun with_file ended path (rule ++ bytes) c.in_ok-add_file_of.ensures.appended
          (joined with_file with_rule ended rule bytes c.in_ok-add_text-2.ensures.appended e)))))))
          c.add_span.ensures.appended;
    }
