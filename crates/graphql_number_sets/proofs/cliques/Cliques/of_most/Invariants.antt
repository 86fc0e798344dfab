use Rattle.std.proofs.Common.{◌≡◌, ◌+◌}
use Rattle.graphql_number_sets.proofs.cliques.Cliques.of_most.Given as goal

abbrev pub invariant-loop-number : goal.invariant-loop-number
invariant-loop-number g l = l.steps ≡ l.initial.steps + l.number-index
