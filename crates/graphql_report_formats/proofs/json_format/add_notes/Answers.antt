use Rattle.std.proofs.Common.{◌≡◌, ◌++◌, Some, rules, subst}
use Rattle.graphql_notes.specs.declared.notes.Note.{Note}
use Rattle.graphql_report_formats.specs.JsonReports.{note_at}
use Rattle.graphql_report_formats.specs.NamedTexts.{all_texts, part_at}
use Rattle.graphql_report_formats.proofs.JsonLemmas.{one_more}
use Rattle.graphql_report_formats.proofs.json_format.add_notes.Goals as goal

pub loop-note-preserved : goal.loop-note-preserved
loop-note-preserved c =
    let texts = all_texts c.args.texts in
    let note = c.note-item.result in
    let old = c.loop-note.json.tokens in
    let new = c.add_note.new.json.tokens in
    record {
      before = search rules;
      appended = one_more (λ (n : Note). note_at n (part_at texts (Some n.place))) c.args.notes.now c.loop-note.note-index note _ old new
          c.loop-note-test.true c.note-item.is c.loop-note.invariant.appended
          (subst (λ p. new ≡ old ++ note_at note p) c.locate.ensures c.in_ok-add_note.ensures.appended);
    }
