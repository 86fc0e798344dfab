use Rattle.std.proofs.Common.{take}
use Rattle.graphql_repetitions.specs.References.{nows}
use Rattle.graphql_schema_checking.specs.Steps.{FindsAll}
use Rattle.graphql_schema_checking.proofs.by_name.extensions_by_name.Given as goal

abbrev pub invariant-loop-extension : goal.invariant-loop-extension
invariant-loop-extension l = FindsAll l.found (nows (take l.extension-index l.extensions))
