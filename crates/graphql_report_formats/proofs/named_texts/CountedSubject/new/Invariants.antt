use Rattle.std.proofs.Common.{◌≡◌, map, take}
use Rattle.graphql_report_formats.specs.NamedTexts.{counted_text, named_text}
use Rattle.graphql_report_formats.proofs.named_texts.CountedSubject.new.Given as goal

abbrev pub invariant-loop-named : goal.invariant-loop-named
invariant-loop-named l = map counted_text l.texts.items ≡ map named_text (take l.named-index l.subject.texts.now)
