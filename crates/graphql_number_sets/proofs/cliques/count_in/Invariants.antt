use Rattle.std.proofs.Common.{◌≡◌, ◌+◌, ◌≤◌}
use Rattle.graphql_number_sets.proofs.cliques.count_in.Given as goal

abbrev pub invariant-loop-number : goal.invariant-loop-number
invariant-loop-number g l = record {
  most : l.count ≤ l.number-index;
  cost : l.steps ≡ l.initial.steps + l.number-index;
}
