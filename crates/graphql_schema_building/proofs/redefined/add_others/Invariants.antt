use Rattle.std.proofs.Common.{◌≡◌, ◌++◌, List, take}
use Rattle.std.specs.Prelude.{filter, not}
use Rattle.std.specs.List.{list_any}
use Rattle.graphql_nodes.specs.Names.{same_name}
use Rattle.graphql_trees.specs.declared.type_system.DirectiveDefinition.{DirectiveDefinition}
use Rattle.graphql_repetitions.specs.References.{nows}
use Rattle.graphql_schema_building.specs.Steps.{FindsFirst}
use Rattle.graphql_schema_building.proofs.redefined.add_others.Given as goal

abbrev pub invariant-loop-directive : goal.invariant-loop-directive
invariant-loop-directive l = (all : List DirectiveDefinition) → FindsFirst l.built_in all →
    nows l.said.items ≡ nows l.initial.said.items ++ filter (λ o. not (list_any (λ d. same_name d.name o.name) all)) (nows (take l.directive-index l.own))
