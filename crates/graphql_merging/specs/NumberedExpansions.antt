-- Where an expansion of sets is whose selections have the numbers of their contents.
use Rattle.std.specs.Prelude.{All, List, map}
use Rattle.graphql_contents.specs.Documents.{IsNumberedSet, document_in}
use Rattle.graphql_contents.specs.declared.contents.Content.{Content}
use Rattle.graphql_merging.specs.ExpansionSteps.{Expanding, newest}
use Rattle.graphql_merging.specs.NumberedFields.{AreNumberedIn, listed}
use Rattle.graphql_merging.specs.declared.numbered_expansion.NumberedExpansion.{NumberedExpansion}

abbrev pub expanding : NumberedExpansion → Expanding
expanding e = record {
  fragments = (document_in e.numbered.now).fragments;
  fields = listed e.fields.items;
  visited = newest e.visited.keys;
  queue = map (λ set. set.set.now) e.queue.items;
}

-- the fields that were listed have the numbers of their contents, and so has what is in the sets that are still to be listed
pub record HasNumbers (contents : List Content) (e : NumberedExpansion) : Type 0 where
  pub fields : AreNumberedIn contents e.fields.items
  pub queue : All (IsNumberedSet contents) e.queue.items
