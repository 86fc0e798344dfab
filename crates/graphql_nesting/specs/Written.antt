-- What is written in a definition, for the search of its levels.
use Rattle.std.specs.Prelude.{◌≡◌, ◌⊎◌, ◌+◌, ◌<◌, ◌≤◌, ℕ, List, Option, None, Some, All, Contains, map, slice_get}
use Rattle.indexmap.specs.IndexMap.{values}
use Rattle.graphql_nodes.specs.declared.nodes.Node.{Node}
use Rattle.graphql_documents.specs.Selections.{Fragments, fragments_of, no_fragments}
use Rattle.graphql_documents.specs.declared.documents.executables.ExecutableDocument.{ExecutableDocument}
use Rattle.graphql_documents.specs.declared.documents.executables.Fragment.{Fragment}
use Rattle.graphql_documents.specs.declared.documents.executables.Selection.{Selection, out-Selection}
use Rattle.graphql_documents.specs.declared.documents.executables.Selection.TheOpen as Open
use Rattle.graphql_documents.specs.declared.documents.executables.SelectionSet.{SelectionSet}
use Rattle.graphql_nesting.specs.Nesting.{Descends, HasLevels}
use Rattle.graphql_nesting.specs.declared.spreads.PlacedSpread.{PlacedSpread}
use Rattle.graphql_nesting.specs.declared.written.LevelWalk.{LevelWalk}
use Rattle.graphql_nesting.specs.declared.written.WrittenLevels.{WrittenLevels}

-- the fragment that a selection spreads, if it is defined
abbrev pub fragment_spread : Fragments → Selection → Option (Node Fragment)
fragment_spread fragments s = elim (out-Selection s) [
  | Open.Field f ↦ None
  | Open.FragmentSpread p ↦ fragments p.value.value.fragment_name
  | Open.InlineFragment i ↦ None
]

-- the sets that are to be looked at, each with the number of levels above it
abbrev pub left_of : LevelWalk → List (SelectionSet × ℕ)
left_of walk = map (λ x. (x.set.now, x.above)) walk.left.items

-- spreads by the fragments that they name, each with the number of levels above the fragment's set
abbrev pub spread_fragments : ExecutableDocument → List PlacedSpread → List (Option (Node Fragment) × ℕ)
spread_fragments document spreads = map (λ s. (slice_get (values document.fragments) s.fragment, s.above)) spreads

-- the spreads that were found
abbrev pub spreads_of : LevelWalk → List (Option (Node Fragment) × ℕ)
spreads_of walk = spread_fragments walk.document.now walk.written.spreads.items

-- a way down of n levels goes through one of these spreads
pub record LeadsThrough (document : ExecutableDocument) (spreads : List PlacedSpread) (n : ℕ) : Type 0 where
  pub s : PlacedSpread
  pub one_of : Contains spreads s
  pub d : Node Fragment
  pub is : slice_get (values document.fragments) s.fragment ≡ Some d
  pub below : ℕ
  pub descends : Descends (fragments_of document) d.value.value.selection_set below
  pub sum : n ≡ s.above + below

-- a way down from the set has so many levels, and each that has more goes through one of these spreads
pub record HasLevelsBefore (document : ExecutableDocument) (set : SelectionSet) (spreads : List PlacedSpread) (levels : ℕ) : Type 0 where
  pub descends : Descends (fragments_of document) set levels
  pub within : (n : ℕ) → Descends (fragments_of document) set n → (n ≤ levels) ⊎ LeadsThrough document spreads n

-- a spread of a fragment so far below the set
pub record IsPlaced (document : ExecutableDocument) (set : SelectionSet) (s : PlacedSpread) : Type 0 where
  pub d : Node Fragment
  pub is : slice_get (values document.fragments) s.fragment ≡ Some d
  pub below_one : 0 < s.above
  pub leads : (n : ℕ) → Descends (fragments_of document) d.value.value.selection_set n → Descends (fragments_of document) set (s.above + n)

-- what is written in the set: its written levels, and the spreads of defined fragments
pub record AreWrittenLevels (document : ExecutableDocument) (set : SelectionSet) (x : WrittenLevels) : Type 0 where
  pub levels : HasLevels no_fragments set x.levels
  pub placed : All (IsPlaced document set) x.spreads.items
  pub before : HasLevelsBefore document set x.spreads.items x.levels
