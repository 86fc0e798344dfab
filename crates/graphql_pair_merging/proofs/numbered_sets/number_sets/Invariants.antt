-- The sets before were described, and what is written in the others is smaller and smaller.
use Rattle.std.proofs.Common.{◌≡◌, All, drop, length, sum_by, ◌+◌, ◌*◌, ◌≤◌}
use Rattle.graphql_pair_merging.specs.NumberedSets.{AreArgumentsNumbered, operation_sets, sets_at}
use Rattle.graphql_value_numbers.specs.Tables.{shapes_of}
use Rattle.graphql_pair_merging.proofs.NumberingLemmas.{Describing}
use Rattle.graphql_pair_merging.specs.DocumentSizes.{size_of_set, size_of}
use Rattle.graphql_pair_merging.proofs.numbered_sets.number_sets.Given as goal

abbrev pub invariant-loop-alloc : goal.invariant-loop-alloc
invariant-loop-alloc g l = record {
  fragments : l.numbering.fragments.now ≡ l.fn.fragments;
  describing : Describing l.fn.fragments l.starts.items (operation_sets l.fn.operations) (sets_at l.numbering.sets.items) l.numbered.items;
  arguments : All (λ x. AreArgumentsNumbered (shapes_of l.numbering.values) x.fields.items) l.numbered.items;
  count : length l.numbered.items + sum_by size_of_set (drop (length l.numbered.items) (sets_at l.numbering.sets.items)) ≤ size_of l.fn.fragments (operation_sets l.fn.operations);
  cost : l.steps + sum_by size_of_set (drop (length l.numbered.items) (sets_at l.numbering.sets.items)) ≤ l.fn.steps + 2 * size_of l.fn.fragments (operation_sets l.fn.operations);
}

abbrev pub decreases-loop-alloc : goal.decreases-loop-alloc
decreases-loop-alloc g l = sum_by size_of_set (drop (length l.numbered.items) (sets_at l.numbering.sets.items))
