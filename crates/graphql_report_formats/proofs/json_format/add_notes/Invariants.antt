use Rattle.std.proofs.Common.{◌≡◌, ◌++◌, take}
use Rattle.graphql_report_formats.specs.JsonReports.{notes_of}
use Rattle.graphql_report_formats.specs.NamedTexts.{all_texts}
use Rattle.graphql_report_formats.proofs.json_format.add_notes.Given as goal

abbrev pub invariant-loop-note : goal.invariant-loop-note
invariant-loop-note l = record {
  before : l.json.before ≡ l.fn.json.before;
  appended : l.json.tokens ≡ l.fn.json.tokens ++ notes_of (all_texts l.texts) (take l.note-index l.notes);
}
