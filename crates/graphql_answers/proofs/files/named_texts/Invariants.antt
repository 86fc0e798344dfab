use Rattle.std.proofs.Common.{◌≡◌, ◌∷◌, map, take}
use Rattle.graphql_report_formats.specs.NamedTexts.{named_text}
use Rattle.graphql_answers.specs.Files.{built_in_text, texts_from}
use Rattle.graphql_answers.proofs.files.named_texts.Given as goal

abbrev pub invariant-loop-place : goal.invariant-loop-place
invariant-loop-place l = map named_text l.texts.items ≡ built_in_text ∷ texts_from 0 (take l.place l.files)
