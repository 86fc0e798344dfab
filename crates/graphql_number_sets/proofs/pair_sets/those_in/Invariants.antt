use Rattle.std.proofs.Common.{◌≡◌, ℕ, ◌+◌, ◌*◌, ◌/◌, ◌<◌, ◌≤◌, true, All, Contains}
use Rattle.graphql_number_sets.specs.NumberSets.{AreExact, has, numbers_of, words_of}
use Rattle.graphql_number_sets.proofs.pair_sets.those_in.Given as goal

abbrev pub invariant-loop-number : goal.invariant-loop-number
invariant-loop-number g l = record {
  exact : AreExact l.those;
  words : (bound : ℕ) → All (λ n. n < bound) l.numbers → words_of l.those.members ≤ bound / 64 + 1;
  each : (bound : ℕ) → All (λ n. n < bound) l.numbers → words_of l.those.members ≤ l.number-index * (bound / 64 + 1);
  cost : l.steps ≤ l.initial.steps + 3 * l.number-index + words_of l.those.members;
  among : (n : ℕ) → Contains (numbers_of l.those) n → Contains l.numbers n × (has l.set n ≡ true);
}
