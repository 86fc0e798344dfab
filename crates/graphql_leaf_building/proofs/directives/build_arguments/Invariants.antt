use Rattle.std.proofs.Common.{take}
use Rattle.std.specs.List.{AllZip}
use Rattle.graphql_leaf_building.specs.Directives.{ArgumentSays}
use Rattle.graphql_leaf_building.proofs.directives.build_arguments.Given as goal

abbrev pub invariant-loop-tree : goal.invariant-loop-tree
invariant-loop-tree l = AllZip ArgumentSays (take l.tree-index l.trees) l.arguments.items
