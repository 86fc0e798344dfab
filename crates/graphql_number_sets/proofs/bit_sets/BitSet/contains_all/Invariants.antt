-- No word so far has a bit that is missing.
use Rattle.std.proofs.Common.{◌≡◌, ℕ, ◌+◌, ◌<◌}
use Rattle.graphql_number_sets.specs.NumberSets.{word_at}
use Rattle.graphql_number_sets.proofs.BitLemmas.{missing}
use Rattle.graphql_number_sets.proofs.bit_sets.BitSet.contains_all.Given as goal

abbrev pub invariant-loop-place : goal.invariant-loop-place
invariant-loop-place g l = record {
  none : (place : ℕ) → place < l.place → missing (word_at l.other.words.items place) (word_at l.self.words.items place) ≡ 0;
  fits : (place : ℕ) → place < l.place → word_at l.self.words.items place < 18446744073709551616;
  steps : l.steps ≡ l.initial.steps + l.place;
}
