use Rattle.std.proofs.Common.{take}
use Rattle.graphql_repetitions.specs.References.{nows}
use Rattle.graphql_schema_building.specs.SchemaSays.{DirectivesStand}
use Rattle.graphql_schema_building.proofs.directives.build_directive_definitions.Given as goal

abbrev pub invariant-loop-tree : goal.invariant-loop-tree
invariant-loop-tree l = DirectivesStand (nows (take l.tree-index l.trees)) l.built.entries
