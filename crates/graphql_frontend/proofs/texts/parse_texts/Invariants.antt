use Rattle.std.proofs.Common.{take}
use Rattle.graphql_frontend.specs.Texts.{ParsesTexts}
use Rattle.graphql_frontend.proofs.texts.parse_texts.Given as goal

abbrev pub invariant-loop-source : goal.invariant-loop-source
invariant-loop-source l = ParsesTexts l.bounds (take l.source-index l.sources) l.documents.items l.errors.items
