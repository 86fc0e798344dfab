use Rattle.std.proofs.Common.{take}
use Rattle.graphql_repetitions.specs.References.{nows}
use Rattle.graphql_schema_building.specs.Steps.{FindsFirst}
use Rattle.graphql_schema_building.proofs.redefined.directives_by_name.Given as goal

abbrev pub invariant-loop-directive : goal.invariant-loop-directive
invariant-loop-directive l = FindsFirst l.found (nows (take l.directive-index l.directives))
