use Rattle.std.proofs.Common.{take}
use Rattle.graphql_repetitions.specs.References.{nows}
use Rattle.graphql_schema_checking.specs.Steps.{AreFirst}
use Rattle.graphql_schema_checking.proofs.by_name.first_definitions.Given as goal

abbrev pub invariant-loop-definition : goal.invariant-loop-definition
invariant-loop-definition l = AreFirst l.first (nows (take l.definition-index l.types))
