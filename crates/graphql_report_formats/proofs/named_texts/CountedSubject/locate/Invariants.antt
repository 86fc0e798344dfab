use Rattle.std.proofs.Common.{◌≡◌, drop, map}
use Rattle.graphql_report_formats.specs.NamedTexts.{counted_text, text_in, texts_of}
use Rattle.graphql_report_formats.proofs.named_texts.CountedSubject.locate.Given as goal

abbrev pub invariant-loop-counted : goal.invariant-loop-counted
invariant-loop-counted l = text_in (texts_of l.self) l.span.file_id ≡ text_in (map counted_text (drop l.counted-index l.self.texts.items)) l.span.file_id
