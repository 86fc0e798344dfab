use Rattle.std.proofs.Common.{◌++◌, List, map, take}
use Rattle.graphql_nodes.specs.Names.{AreDistinct}
use Rattle.graphql_leaf_building.specs.Definitions.{FieldDefinitionSays}
use Rattle.graphql_trees.specs.declared.type_system.FieldDefinition as field_tree
use Rattle.graphql_schema_building.specs.Parts.{EntriesSay, Originated, written_names}
use Rattle.graphql_schema_building.proofs.parts.add_fields.Given as goal

abbrev pub invariant-loop-tree : goal.invariant-loop-tree
invariant-loop-tree l = (written : List (Originated field_tree.FieldDefinition)) → AreDistinct (written_names (λ x. x.name) (written ++ map (λ x. (l.origin, x)) l.trees)) →
    EntriesSay (λ x. x.name) FieldDefinitionSays written l.initial.fields.entries →
    EntriesSay (λ x. x.name) FieldDefinitionSays (written ++ map (λ x. (l.origin, x)) (take l.tree-index l.trees)) l.fields.entries
