use Rattle.std.proofs.Common.{◌≡◌, ◌++◌, List, map, take}
use Rattle.graphql_trees.specs.declared.type_system.DirectiveDefinition.{DirectiveDefinition}
use Rattle.graphql_repetitions.specs.References.{nows}
use Rattle.graphql_schema_building.specs.SchemaSays.{in_place_of}
use Rattle.graphql_schema_building.specs.Steps.{FindsFirst}
use Rattle.graphql_schema_building.proofs.redefined.add_in_place.Given as goal

abbrev pub invariant-loop-directive : goal.invariant-loop-directive
invariant-loop-directive l = (all : List DirectiveDefinition) → FindsFirst l.own all →
    nows l.said.items ≡ nows l.initial.said.items ++ map (in_place_of all) (nows (take l.directive-index l.built_in))
