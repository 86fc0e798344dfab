use Rattle.std.proofs.Common.{take}
use Rattle.graphql_schema_checking.specs.Sorting.{AreSortedAfter}
use Rattle.graphql_schema_checking.proofs.definitions.SortedDefinitions.add_all.Given as goal

abbrev pub invariant-loop-definition : goal.invariant-loop-definition
invariant-loop-definition l = AreSortedAfter l.initial.self (take l.definition-index l.definitions) l.self
