-- Pairs that are reached were looked at, or wait; there are fewer and fewer that were not looked at.
use Rattle.std.proofs.Common.{◌≡◌, length, vec_len, ◌+◌, ◌*◌}
use Rattle.graphql_merging.specs.Groups.{pass_of}
use Rattle.graphql_number_sets.proofs.CountLemmas.{count_pairs}
use Rattle.graphql_number_sets.specs.NumberSets.{KeepsCliques, has_pair}
use Rattle.graphql_pair_merging.specs.Pairs.{lists_at}
use Rattle.graphql_pair_merging.specs.Works.{most_of, Paid, places_in}
use Rattle.graphql_pair_merging.proofs.WalkLemmas.{Walks}
use Rattle.graphql_pair_merging.proofs.pairs.PairPass.find_conflict.Given as goal

abbrev pub invariant-loop-looked : goal.invariant-loop-looked
invariant-loop-looked g l = record {
  count : vec_len l.looked.rows ≡ length l.self.sets.now;
  cliques : KeepsCliques l.looked;
  walks : Walks l.self.schema.now (pass_of l.self.pass) l.self.sets.now l.starts l.looked (lists_at l.waiting.items);
  most : most_of l.work ≡ most_of l.initial.work;
  cost : Paid l.fn.work l.fn.steps l.work (l.steps + 3 * places_in (lists_at l.waiting.items)) (8 * length l.starts + 2 * length l.self.sets.now);
}

abbrev pub decreases-loop-looked : goal.decreases-loop-looked
decreases-loop-looked g l = count_pairs (length l.self.sets.now) (length l.self.sets.now) (has_pair l.looked)
