use Rattle.std.proofs.Common.{◌≡◌, ◌∷◌, [], map, take, ◌+◌, ◌*◌}
use Rattle.graphql_pair_merging.specs.Pairs.{lists_at}
use Rattle.graphql_pair_merging.proofs.pairs.PairPass.each_alone.Given as goal

abbrev pub invariant-loop-start : goal.invariant-loop-start
invariant-loop-start g l = record {
  lists : lists_at l.waiting.items ≡ map (λ n. n ∷ []) (take l.start-index l.starts);
  cost : l.steps ≡ l.initial.steps + 2 * l.start-index;
}
