use Rattle.std.proofs.Common.{◌+◌, ◌*◌, ◌/◌, ◌≤◌, length, take, vec_len}
use Rattle.graphql_number_sets.specs.NumberSets.{AreExact, FitsBelow, numbers_of, words_of}
use Rattle.graphql_number_sets.proofs.NumberLemmas.{Placing}
use Rattle.graphql_number_sets.proofs.pair_sets.PairSet.ends.Given as goal

abbrev pub invariant-loop-number : goal.invariant-loop-number
invariant-loop-number g l = record {
  paired : AreExact l.paired;
  ends : AreExact l.ends;
  paired_fits : FitsBelow (vec_len l.self.rows) l.paired.members;
  ends_each : words_of l.ends.members ≤ l.number-index * (vec_len l.self.rows / 64 + 1);
  ends_fits : FitsBelow (vec_len l.self.rows) l.ends.members;
  cost : l.steps ≤ l.fn.steps + length l.number-items * (vec_len l.self.rows / 64 + 8) + l.number-index * (vec_len l.self.rows / 64 + 4) + words_of l.ends.members;
  placing : Placing l.self (numbers_of l.numbers) (take l.number-index l.number-items) (numbers_of l.paired) (numbers_of l.ends);
}
