-- What was found so far, and ever less is left.
use Rattle.std.proofs.Common.{◌≡◌}
use Rattle.graphql_nesting.specs.Written.{left_of, spreads_of}
use Rattle.graphql_nesting.proofs.WalkLemmas.{Walks}
use Rattle.graphql_nesting.proofs.WeightLemmas.{weight_left}
use Rattle.graphql_nesting.proofs.written.written_levels.Given as goal

abbrev pub invariant-loop-below : goal.invariant-loop-below
invariant-loop-below l = record {
  document : l.walk.document.now ≡ l.fn.document;
  walks : Walks l.fn.document l.fn.set (left_of l.walk) (spreads_of l.walk) l.walk.written.levels;
}

abbrev pub decreases-loop-below : goal.decreases-loop-below
decreases-loop-below l = weight_left (left_of l.walk)
