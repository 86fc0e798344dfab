use Rattle.std.proofs.Common.{take}
use Rattle.std.specs.List.{AllZip}
use Rattle.graphql_leaf_building.specs.Definitions.{VariableSays}
use Rattle.graphql_leaf_building.proofs.definitions.build_variables.Given as goal

abbrev pub invariant-loop-tree : goal.invariant-loop-tree
invariant-loop-tree l = AllZip VariableSays (take l.tree-index l.trees) l.variables.items
