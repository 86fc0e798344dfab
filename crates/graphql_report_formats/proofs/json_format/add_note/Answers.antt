use Rattle.std.proofs.Common.{◌≡◌, [], ◌∷◌, ◌++◌, Some, codes, rules, string_bytes, subst}
use Rattle.std.proofs.lemmas.Result.{on_ok_weaker}
use Rattle.json.specs.Token.{begin_object, end_object}
use Rattle.graphql_report_formats.specs.JsonReports.{file, location, span, text_member}
use Rattle.graphql_report_formats.specs.NamedTexts.{part}
use Rattle.graphql_report_formats.proofs.JsonLemmas.{joined}
use Rattle.graphql_report_formats.proofs.json_format.add_note.Goals as goal

pub returns : goal.returns
returns c =
    let old = c.args.json.now.tokens in
    let begun = c.begin_object.new.self.tokens in
    let with_message = c.add_text.new.json.tokens in
    let with_file = c.add_file.new.json.tokens in
    let with_place = c.add_place.new.json.tokens in
    let with_span = c.add_span.new.json.tokens in
    let ended = c.end_object.new.self.tokens in
    let at = part c.in-Some.at in
    let message = text_member (codes "message") (string_bytes c.args.note.now.message) in
    let path = file at.path in
    let place = location at.start in
    let bytes = span (Some at) in
    let end = end_object ∷ [] in
    rw c.in-Some.is (record {
      before = search rules;
      appended = on_ok_weaker {P = ended ≡ with_span ++ end} c.end_object.result
          (λ e. joined old begun ended (begin_object ∷ []) (message ++ (path ++ (place ++ (bytes ++ end)))) c.in_ok-begin_object.ensures.ok
          (joined begun with_message ended message (path ++ (place ++ (bytes ++ end)))
          (subst (λ m. with_message ≡ begun ++ text_member (codes "message") m) c.as_str.ensures.value c.in_ok-add_text.ensures.appended)
          (joined with_message with_file ended path (place ++ (bytes ++ end)) c.in_ok-add_file.ensures.appended
          (joined with_file with_place ended place (bytes ++ end) c.in_ok-add_place.ensures.appended
          (joined with_place with_span ended bytes end c.in_ok-add_span.ensures.appended e)))))
          c.end_object.ensures.ok;
    })
