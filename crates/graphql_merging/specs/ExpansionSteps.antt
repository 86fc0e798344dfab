-- The steps of the expansion of sets, for the contracts of its private functions.
use Rattle.std.specs.Prelude.{◌≡◌, List, ◌++◌, filter_map, map, reverse}
use Rattle.std.specs.Borrow.{Bor}
use Rattle.indexmap.specs.IndexMap.{IndexMap, get}
use Rattle.graphql_specification.specs.MergedSets.{FragmentSets, as_field}
use Rattle.graphql_specification.specs.Merging as merging
use Rattle.graphql_hash_seeds.specs.declared.seeds.HashSeed.{HashSeed}
use Rattle.graphql_nodes.specs.Names.{NameText, same_name}
use Rattle.graphql_documents.specs.Selections.{Fragments}
use Rattle.graphql_documents.specs.declared.documents.executables.Fragment.{Fragment}
use Rattle.graphql_documents.specs.declared.documents.executables.Selection.{Selection}
use Rattle.graphql_documents.specs.declared.documents.executables.SelectionSet.{SelectionSet}
use Rattle.graphql_nodes.specs.declared.nodes.Node.{Node}
use Rattle.graphql_field_conflicts.specs.FieldSelections.{listed}
use Rattle.graphql_merging.specs.declared.expansion.FieldExpansion.{FieldExpansion}

-- how a name finds its fragment among these
abbrev pub fragments_in : {S : Type 0} → IndexMap NameText (Node Fragment) S → Fragments
fragments_in fragments name = get same_name fragments name

-- where an expansion is: the fragments, the fields that were listed, the names that were visited, the newest first, and the sets that are
-- still to be listed
pub record Expanding : Type 0 where
  pub fragments : IndexMap NameText (Node Fragment) HashSeed
  pub fields : List merging.FieldSelection
  pub visited : List NameText
  pub queue : List SelectionSet

-- the names in a set, the newest first
abbrev pub newest : List (Bor NameText) → List NameText
newest keys = reverse (map (λ key. key.now) keys)

abbrev pub expanding : FieldExpansion → Expanding
expanding e = record {
  fragments = e.fragments.now;
  fields = listed e.fields.items;
  visited = newest e.visited.keys;
  queue = map (λ set. set.now) e.queue.items;
}

-- the fields among these selections of a set of this type were listed, and the sets of the fragments among
-- them put behind the others
pub record Expands (old new : Expanding) (parent : NameText) (selections : List Selection) : Type 0 where
  pub fragments : new.fragments ≡ old.fragments
  pub fields : new.fields ≡ old.fields ++ filter_map (as_field parent) selections
  pub sets : List SelectionSet
  pub found : FragmentSets (fragments_in old.fragments) old.visited selections sets new.visited
  pub queue : new.queue ≡ old.queue ++ sets
