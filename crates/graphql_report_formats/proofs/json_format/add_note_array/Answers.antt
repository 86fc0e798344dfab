use Rattle.std.proofs.Common.{◌≡◌, [], ◌∷◌, ◌++◌, codes, rules}
use Rattle.std.proofs.lemmas.Result.{on_ok_weaker}
use Rattle.json.specs.Token.{begin_array, end_array, key}
use Rattle.graphql_report_formats.specs.JsonReports.{notes_of}
use Rattle.graphql_report_formats.specs.NamedTexts.{all_texts}
use Rattle.graphql_report_formats.proofs.JsonLemmas.{joined}
use Rattle.graphql_report_formats.proofs.json_format.add_note_array.Goals as goal

pub returns : goal.returns
returns c =
    let old = c.args.json.now.tokens in
    let named = c.key.new.self.tokens in
    let begun = c.begin_array.new.self.tokens in
    let with_notes = c.add_notes.new.json.tokens in
    let ended = c.end_array.new.self.tokens in
    let notes = notes_of (all_texts c.args.texts) c.args.notes.now in
    let end = end_array ∷ [] in
    record {
      before = search rules;
      appended = on_ok_weaker {P = ended ≡ with_notes ++ end} c.end_array.result
          (λ e. joined old named ended (key (codes "related") ∷ []) (begin_array ∷ (notes ++ end)) c.in_ok-key.ensures.ok
          (joined named begun ended (begin_array ∷ []) (notes ++ end) c.in_ok-begin_array.ensures.ok
          (joined begun with_notes ended notes end c.in_ok-add_notes.ensures.appended e)))
          c.end_array.ensures.ok;
    }
