use Rattle.std.proofs.Common.{◌≡◌, ℕ, ◌+◌, false, vec_len}
use Rattle.std.specs.Prelude.{slice_get}
use Rattle.graphql_number_sets.specs.NumberSets.{has_in}
use Rattle.graphql_number_sets.proofs.pair_sets.PairSet.new.Given as goal

abbrev pub invariant-loop : goal.invariant-loop
invariant-loop g l = record {
  count : vec_len l.rows ≡ l.counter;
  cost : l.steps ≡ l.initial.steps + l.counter;
  empty : (first second : ℕ) → has_in (slice_get l.rows.items first) second ≡ false;
}
