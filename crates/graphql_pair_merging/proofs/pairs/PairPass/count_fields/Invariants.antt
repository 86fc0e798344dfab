use Rattle.std.proofs.Common.{◌≡◌, ◌+◌, ◌*◌, ◌-◌, ◌/◌, ◌^◌, ◌<◌, ◌≤◌, length, take}
use Rattle.graphql_number_sets.specs.NumberSets.{numbers_of}
use Rattle.graphql_pair_merging.specs.NumberedSets.{count_fields}
use Rattle.graphql_pair_merging.proofs.pairs.PairPass.count_fields.Given as goal

abbrev pub invariant-loop-number : goal.invariant-loop-number
invariant-loop-number g l = record {
  units : l.units < 2 ^ 64 - 1 → length (numbers_of l.numbers) * (length l.self.sets.now / 1024 + 1) + 16 * count_fields l.self.sets.now (take l.number-index l.number-items) ≤ l.units;
  cost : l.steps ≡ l.initial.steps + l.number-index;
}
