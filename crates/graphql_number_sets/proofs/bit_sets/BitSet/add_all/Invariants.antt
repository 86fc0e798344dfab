-- The words so far were joined, and the others are as they were.
use Rattle.std.proofs.Common.{◌≡◌, ℕ, ◌+◌, ◌<◌, ◌≤◌, vec_len}
use Rattle.std.specs.Prelude.{bit_or}
use Rattle.graphql_number_sets.specs.NumberSets.{word_at}
use Rattle.graphql_number_sets.proofs.bit_sets.BitSet.add_all.Given as goal

abbrev pub invariant-loop-place : goal.invariant-loop-place
invariant-loop-place g l = record {
  long : vec_len l.other.words ≤ vec_len l.self.words;
  joined : (place : ℕ) → place < l.place → word_at l.self.words.items place ≡ bit_or (word_at l.fn.self.words.items place) (word_at l.other.words.items place);
  cost : l.steps ≤ l.fn.steps + vec_len l.other.words + l.place;
  others : (place : ℕ) → l.place ≤ place → word_at l.self.words.items place ≡ word_at l.fn.self.words.items place;
}
