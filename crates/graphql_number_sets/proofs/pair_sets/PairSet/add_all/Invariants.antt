use Rattle.std.proofs.Common.{◌≡◌, ℕ, ◌+◌, ◌*◌, ◌≤◌, take, true, vec_len, Contains}
use Rattle.std.specs.Prelude.{◌↔◌, ◌⊎◌}
use Rattle.graphql_number_sets.specs.NumberSets.{has_pair, numbers_of, words_of}
use Rattle.graphql_number_sets.proofs.pair_sets.PairSet.add_all.Given as goal

abbrev pub invariant-loop-number : goal.invariant-loop-number
invariant-loop-number g l = record {
  count : vec_len l.self.rows ≡ vec_len l.fn.self.rows;
  cliques : l.self.cliques ≡ l.fn.self.cliques;
  cost : l.steps ≤ l.initial.steps + l.number-index * (2 * words_of l.seconds.members + 65);
  added : (a b : ℕ) → (has_pair l.self a b ≡ true) ↔ ((has_pair l.fn.self a b ≡ true) ⊎ (Contains (take l.number-index l.number-items) a × Contains (numbers_of l.seconds) b));
}
