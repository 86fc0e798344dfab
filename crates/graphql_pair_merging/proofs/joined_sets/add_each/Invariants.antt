use Rattle.std.proofs.Common.{take, ℕ, ◌+◌, ◌*◌, ◌/◌, ◌<◌, ◌≤◌, All, length}
use Rattle.graphql_number_sets.specs.NumberSets.{AreExact, numbers_of, FitsBelow, words_of}
use Rattle.graphql_pair_merging.specs.JoinedSets.{AddsEach}
use Rattle.graphql_pair_merging.proofs.joined_sets.add_each.Given as goal

abbrev pub invariant-loop-number : goal.invariant-loop-number
invariant-loop-number g l = record {
  exact : AreExact l.joined;
  added : AddsEach (take l.number-index l.numbers) (numbers_of l.initial.joined) (numbers_of l.joined);
  fits : (bound : ℕ) → All (λ n. n < bound) l.numbers → FitsBelow bound l.initial.joined.members → FitsBelow bound l.joined.members;
  each : (bound : ℕ) → All (λ n. n < bound) l.numbers →
      words_of l.joined.members + length (numbers_of l.initial.joined) * (bound / 64 + 1) ≤ words_of l.initial.joined.members + length (numbers_of l.joined) * (bound / 64 + 1);
  cost : l.steps + words_of l.initial.joined.members ≤ l.initial.steps + words_of l.joined.members + 3 * l.number-index;
}
