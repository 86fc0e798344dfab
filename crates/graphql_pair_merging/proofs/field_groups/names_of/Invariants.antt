use Rattle.std.proofs.Common.{◌≡◌, ◌++◌, ◌+◌, length}
use Rattle.graphql_pair_merging.proofs.field_groups.names_of.Given as goal

abbrev pub invariant-loop-name : goal.invariant-loop-name
invariant-loop-name g l = record {
  names : l.names.items ++ l.name-iterator ≡ l.initial.name-iterator;
  cost : l.steps + length l.name-iterator ≡ l.initial.steps + length l.initial.name-iterator;
}
