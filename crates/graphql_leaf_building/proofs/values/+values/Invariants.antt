use Rattle.std.proofs.Common.{take}
use Rattle.graphql_leaf_building.specs.Values.{FieldsSay, ItemsSay}
use Rattle.graphql_leaf_building.proofs.values.+values.Given as goal

abbrev pub invariant-fields_of_object-loop-tree : goal.invariant-fields_of_object-loop-tree
invariant-fields_of_object-loop-tree l = FieldsSay (take l.tree-index l.trees) l.fields.items

abbrev pub invariant-items_of_list-loop-tree : goal.invariant-items_of_list-loop-tree
invariant-items_of_list-loop-tree l = ItemsSay (take l.tree-index l.trees) l.items.items
