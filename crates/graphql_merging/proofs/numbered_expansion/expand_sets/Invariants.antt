-- What is still in the queue, listed behind what was listed, is the expansion; and there is ever less left.
use Rattle.std.proofs.Common.{◌≡◌, ◌+◌, ◌*◌, ◌++◌, List, length, map}
use Rattle.graphql_contents.specs.Documents.{contents_in, document_in}
use Rattle.graphql_specification.specs.MergedSets.{Expansion, ExpandsFrom}
use Rattle.graphql_specification.specs.Merging.{FieldSelection}
use Rattle.graphql_documents.specs.Selections.{fragments_of}
use Rattle.graphql_merging.specs.NumberedExpansions.{HasNumbers, expanding}
use Rattle.graphql_merging.specs.NumberedFields.{listed}
use Rattle.graphql_merging.specs.Works.{IsUnbounded, Pays}
use Rattle.graphql_merging.proofs.ExpansionSizeLemmas.{left}
use Rattle.graphql_merging.proofs.numbered_expansion.expand_sets.Given as goal

abbrev pub invariant-loop-set : goal.invariant-loop-set
invariant-loop-set g l = record {
  document : l.expansion.numbered.now ≡ l.numbered;
  rest : (more : List FieldSelection) → ExpandsFrom (fragments_of (document_in l.numbered)) (expanding l.expansion).visited (expanding l.expansion).queue more →
      Expansion (fragments_of (document_in l.numbered)) (map (λ set. set.set.now) l.fn.sets.items) (listed l.expansion.fields.items ++ more);
  numbers : HasNumbers (contents_in l.numbered) l.expansion;
  unbounded : IsUnbounded l.initial.work → IsUnbounded l.work;
  cost : Pays l.initial.work l.work (l.initial.steps + length l.fn.sets.items) (l.steps + (25 * length l.expansion.fields.items + length l.expansion.queue.items)) 0;
}

abbrev pub decreases-loop-set : goal.decreases-loop-set
decreases-loop-set g l = left (expanding l.expansion)
