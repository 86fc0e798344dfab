use Rattle.std.proofs.Common.{◌≡◌, ◌++◌, rules, string_bytes, subst}
use Rattle.std.proofs.lemmas.Result.{on_ok_weaker}
use Rattle.graphql_report_formats.specs.JsonReports.{error_begin, error_end, help_member, related}
use Rattle.graphql_report_formats.specs.NamedTexts.{all_texts, part_at, path_of}
use Rattle.graphql_report_formats.proofs.JsonLemmas.{joined}
use Rattle.graphql_report_formats.proofs.json_format.add_finding.Goals as goal

pub returns : goal.returns
returns c =
    let old = c.args.json.now.tokens in
    let begun = c.begin_finding.new.json.tokens in
    let with_notes = c.add_related.new.json.tokens in
    let with_help = c.add_help.new.json.tokens in
    let ended = c.end_error.new.json.tokens in
    let texts = all_texts c.args.texts in
    let finding = c.args.finding.now in
    let report = finding.report in
    let begin = error_begin report.rule.now (string_bytes report.message) (part_at texts report.location) (path_of c.args.texts.subject.now.path) in
    let notes = related texts finding.notes.items in
    let help = help_member finding.help in
    record {
      before = search rules;
      appended = on_ok_weaker {P = ended ≡ with_help ++ error_end} c.end_error.result
          (λ e. joined old begun ended begin (notes ++ (help ++ error_end)) c.in_ok-begin_finding.ensures.appended
          (joined begun with_notes ended notes (help ++ error_end)
          (subst (λ l. with_notes ≡ begun ++ related texts l) c.deref.ensures.value c.in_ok-add_related.ensures.appended)
          (joined with_notes with_help ended help error_end
          (subst (λ h. with_help ≡ with_notes ++ help_member h) c.as_ref.ensures.value c.in_ok-add_help.ensures.appended) e)))
          c.end_error.ensures.appended;
    }
