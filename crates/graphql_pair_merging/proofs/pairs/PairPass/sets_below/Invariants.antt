use Rattle.std.proofs.Common.{take, ◌≡◌, ◌≤◌, ◌+◌, length}
use Rattle.graphql_pair_merging.specs.Pairs.{AreSetsBelow}
use Rattle.graphql_pair_merging.proofs.pairs.PairPass.sets_below.Given as goal

abbrev pub invariant-loop-field : goal.invariant-loop-field
invariant-loop-field g l = record {
  below : AreSetsBelow (take l.field-index l.fields) l.below.items;
  count : length l.below.items ≤ l.field-index;
  cost : l.steps ≡ l.initial.steps + l.field-index;
}
