use Rattle.std.proofs.Common.{◌≡◌, ◌+◌}
use Rattle.graphql_number_sets.proofs.cliques.Cliques.new.Given as goal

abbrev pub invariant-loop : goal.invariant-loop
invariant-loop g l = l.steps ≡ l.initial.steps + l.counter
