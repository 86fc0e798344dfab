use Rattle.std.proofs.Common.{◌≡◌, ℕ, ◌+◌, ◌/◌, ◌<◌, ◌≤◌, take, true, All, Contains}
use Rattle.std.specs.Prelude.{◌↔◌, ◌⊎◌, max}
use Rattle.graphql_number_sets.specs.NumberSets.{has, words_of}
use Rattle.graphql_number_sets.proofs.bit_sets.BitSet.insert_each.Given as goal

abbrev pub invariant-loop-number : goal.invariant-loop-number
invariant-loop-number g l = record {
  added : (n : ℕ) → (has l.self n ≡ true) ↔ ((has l.fn.self n ≡ true) ⊎ Contains (take l.number-index l.numbers) n);
  words : (most : ℕ) → All (λ n. n / 64 < most) l.numbers → words_of l.self ≤ max (words_of l.initial.self) most;
  cost : l.steps + words_of l.initial.self ≤ l.initial.steps + words_of l.self + l.number-index;
}
