use Rattle.std.proofs.Common.{◌≡◌, drop}
use Rattle.std.specs.List.{list_any}
use Rattle.graphql_report_formats.specs.JsonReports.{is_located}
use Rattle.graphql_report_formats.specs.NamedTexts.{all_texts}
use Rattle.graphql_report_formats.proofs.json_format.is_any_located.Given as goal

abbrev pub invariant-loop-note : goal.invariant-loop-note
invariant-loop-note l = list_any (is_located (all_texts l.texts)) l.notes ≡ list_any (is_located (all_texts l.texts)) (drop l.note-index l.notes)
