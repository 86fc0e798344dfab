use Rattle.std.proofs.Common.{take}
use Rattle.graphql_schema_checking.specs.Definitions.{definitions_in}
use Rattle.graphql_schema_checking.specs.Sorting.{AreSorted}
use Rattle.graphql_schema_checking.proofs.definitions.SortedDefinitions.of.Given as goal

abbrev pub invariant-loop-tree : goal.invariant-loop-tree
invariant-loop-tree l = AreSorted (definitions_in (take l.tree-index l.trees)) l.sorted
