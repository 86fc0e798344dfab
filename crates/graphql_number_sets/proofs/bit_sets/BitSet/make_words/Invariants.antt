use Rattle.std.proofs.Common.{◌≡◌, ℕ, ◌+◌, ◌-◌, ◌≤◌, vec_len}
use Rattle.std.specs.Prelude.{max}
use Rattle.graphql_number_sets.specs.NumberSets.{word_at, words_of}
use Rattle.graphql_number_sets.proofs.bit_sets.BitSet.make_words.Given as goal

abbrev pub invariant-loop-self : goal.invariant-loop-self
invariant-loop-self g l = record {
  words : (place : ℕ) → word_at l.self.words.items place ≡ word_at l.initial.self.words.items place;
  most : words_of l.self ≤ max (words_of l.initial.self) l.count;
  cost : l.steps + words_of l.initial.self ≡ l.initial.steps + words_of l.self;
}

abbrev pub decreases-loop-self : goal.decreases-loop-self
decreases-loop-self g l = l.count - vec_len l.self.words
