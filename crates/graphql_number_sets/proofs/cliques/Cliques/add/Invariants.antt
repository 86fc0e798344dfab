use Rattle.std.proofs.Common.{◌≡◌, ◌+◌}
use Rattle.graphql_number_sets.proofs.cliques.Cliques.add.Given as goal

abbrev pub invariant-loop-number : goal.invariant-loop-number
invariant-loop-number g l = record {
  same : l.self.sets.items ≡ l.initial.self.sets.items;
  cost : l.steps ≡ l.initial.steps + l.number-index;
}
