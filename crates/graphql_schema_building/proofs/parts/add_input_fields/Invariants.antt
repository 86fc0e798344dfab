use Rattle.std.proofs.Common.{◌++◌, List, map, take}
use Rattle.graphql_nodes.specs.Names.{AreDistinct}
use Rattle.graphql_leaf_building.specs.Definitions.{InputValueSays}
use Rattle.graphql_trees.specs.declared.type_system.InputValueDefinition as input_value_tree
use Rattle.graphql_schema_building.specs.Parts.{EntriesSay, Originated, written_names}
use Rattle.graphql_schema_building.proofs.parts.add_input_fields.Given as goal

abbrev pub invariant-loop-tree : goal.invariant-loop-tree
invariant-loop-tree l = (written : List (Originated input_value_tree.InputValueDefinition)) → AreDistinct (written_names (λ x. x.name) (written ++ map (λ x. (l.origin, x)) l.trees)) →
    EntriesSay (λ x. x.name) InputValueSays written l.initial.input_fields.entries →
    EntriesSay (λ x. x.name) InputValueSays (written ++ map (λ x. (l.origin, x)) (take l.tree-index l.trees)) l.input_fields.entries
