-- The fragments in the first few sets are there.
use Rattle.std.proofs.Common.{◌-◌, length, ◌≡◌, ◌+◌, ◌*◌, ◌/◌, ◌≤◌}
use Rattle.graphql_number_sets.specs.NumberSets.{AreExact, numbers_of, FitsBelow, words_of}
use Rattle.graphql_pair_merging.proofs.JoinLemmas.{Joining}
use Rattle.graphql_pair_merging.specs.Works.{Paid, most_of}
use Rattle.graphql_pair_merging.proofs.joined_sets.with_fragments.Given as goal

abbrev pub invariant-loop-next : goal.invariant-loop-next
invariant-loop-next g l = record {
  exact : AreExact l.joined;
  joining : Joining l.sets l.first l.next (numbers_of l.joined);
  fits : FitsBelow (length l.sets) l.joined.members;
  each : words_of l.joined.members ≤ length (numbers_of l.joined) * (length l.sets / 64 + 1);
  most : most_of l.work ≡ most_of l.fn.work;
  cost : Paid l.fn.work (l.fn.steps + 3 * length l.first + words_of l.joined.members) l.work (l.steps + l.next * (4 * (length l.sets / 64) + 14)) 0;
}

abbrev pub decreases-loop-next : goal.decreases-loop-next
decreases-loop-next g l = length l.sets - l.next
