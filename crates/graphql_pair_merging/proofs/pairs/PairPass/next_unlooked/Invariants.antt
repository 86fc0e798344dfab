use Rattle.std.proofs.Common.{◌≡◌, vec_len, ◌+◌, ◌*◌}
use Rattle.graphql_pair_merging.specs.Pairs.{lists_at}
use Rattle.graphql_pair_merging.specs.Works.{most_of, Paid, places_in}
use Rattle.graphql_pair_merging.proofs.JoinLemmas.{Taken}
use Rattle.graphql_pair_merging.proofs.pairs.PairPass.next_unlooked.Given as goal

abbrev pub invariant-loop-first : goal.invariant-loop-first
invariant-loop-first g l = record {
  taken : Taken l.self.sets.now l.looked (lists_at l.initial.waiting.items) (lists_at l.waiting.items);
  most : most_of l.work ≡ most_of l.initial.work;
  cost : Paid l.initial.work (l.initial.steps + 3 * places_in (lists_at l.initial.waiting.items)) l.work (l.steps + 3 * places_in (lists_at l.waiting.items)) 0;
}

abbrev pub decreases-loop-first : goal.decreases-loop-first
decreases-loop-first g l = vec_len l.waiting
