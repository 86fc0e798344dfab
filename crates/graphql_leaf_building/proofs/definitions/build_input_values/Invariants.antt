use Rattle.std.proofs.Common.{take}
use Rattle.std.specs.List.{AllZip}
use Rattle.graphql_leaf_building.specs.Definitions.{InputValueSays}
use Rattle.graphql_leaf_building.proofs.definitions.build_input_values.Given as goal

abbrev pub invariant-loop-tree : goal.invariant-loop-tree
invariant-loop-tree l = AllZip InputValueSays (take l.tree-index l.trees) l.definitions.items
