-- What is still in the queue, listed behind what was listed, is the expansion; and there is ever less left.
use Rattle.std.proofs.Common.{◌≡◌, ◌++◌, List, map}
use Rattle.graphql_specification.specs.MergedSets.{Expansion, ExpandsFrom}
use Rattle.graphql_specification.specs.Merging.{FieldSelection}
use Rattle.graphql_merging.specs.ExpansionSteps.{expanding, fragments_in}
use Rattle.graphql_field_conflicts.specs.FieldSelections.{listed}
use Rattle.graphql_merging.proofs.ExpansionSizeLemmas.{left}
use Rattle.graphql_merging.proofs.expansion.expand_selections.Given as goal

abbrev pub invariant-loop-set : goal.invariant-loop-set
invariant-loop-set l = record {
  fragments : l.expansion.fragments.now ≡ l.fragments;
  rest : (more : List FieldSelection) → ExpandsFrom (fragments_in l.fragments) (expanding l.expansion).visited (expanding l.expansion).queue more →
      Expansion (fragments_in l.fragments) (map (λ set. set.now) l.fn.sets) (listed l.expansion.fields.items ++ more);
}

abbrev pub decreases-loop-set : goal.decreases-loop-set
decreases-loop-set l = left (expanding l.expansion)
