use Rattle.std.proofs.Common.{take}
use Rattle.graphql_project_checking.specs.Silence.{LeavesOutEmpty}
use Rattle.graphql_project_checking.proofs.texts.with_tokens.Given as goal

abbrev pub invariant-loop-source : goal.invariant-loop-source
invariant-loop-source l =
    LeavesOutEmpty (take l.source-index l.sources) l.kept.items
