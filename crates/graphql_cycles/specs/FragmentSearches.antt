-- Searches for cycles of fragments, for the contracts of private functions.
use Rattle.std.specs.Prelude.{◌≡◌, List, Contains, Result}
use Rattle.std.specs.Borrow.{Bor}
use Rattle.graphql_specification.specs.Fragments.{SpreadsBy, fragment_of}
use Rattle.graphql_nodes.specs.Names.{NameText}
use Rattle.graphql_documents.specs.Selections.{Written, fragments_of}
use Rattle.graphql_documents.specs.declared.documents.executables.Field.{Field}
use Rattle.graphql_documents.specs.declared.documents.executables.FragmentSpread.{FragmentSpread}
use Rattle.graphql_documents.specs.declared.documents.executables.InlineFragment.{InlineFragment}
use Rattle.graphql_documents.specs.declared.documents.executables.Selection.TheVariants as kind
use Rattle.graphql_documents.specs.declared.documents.executables.Selection.{Selection}
use Rattle.graphql_documents.specs.declared.documents.executables.SelectionSet.{SelectionSet}
use Rattle.graphql_nodes.specs.declared.nodes.Node.{Node}
use Rattle.graphql_guards.specs.Guards.{path_limit, path_of}
use Rattle.graphql_guards.specs.declared.recursion.CycleError.{CycleError}
use Rattle.graphql_guards.specs.declared.recursion.RecursionStack.{RecursionStack}
use Rattle.graphql_cycles.specs.CycleSearches.{Searches, StandsOn}
use Rattle.graphql_cycles.specs.declared.fragments.FragmentSearch.{FragmentSearch}

-- the spread is written in the set, at any depth
abbrev pub SpreadIn : SelectionSet → Node FragmentSpread → Type 0
SpreadIn set p = Written set (kind.FragmentSpread p)

-- the selection is the spread, or the spread is written in its set
pub data SpreadAt (s : Selection) (p : Node FragmentSpread) : Type 0 where
  spread_itself : s ≡ kind.FragmentSpread p → SpreadAt s p
  spread_in_field : (f : Node Field) → s ≡ kind.Field f → SpreadIn f.value.value.selection_set p → SpreadAt s p
  spread_in_inline_fragment : (i : Node InlineFragment) → s ≡ kind.InlineFragment i → SpreadIn i.value.value.selection_set p → SpreadAt s p

-- the same of one of these selections
abbrev pub SpreadAmong : List Selection → Node FragmentSpread → Type 0
SpreadAmong selections p = (s : Selection) × Contains selections s × SpreadAt s p

-- a search begins with a path that holds the names that it should
abbrev pub BeginsAt : FragmentSearch → RecursionStack → List (Bor NameText) → Type 0
BeginsAt search path seen = StandsOn search.root.now (path_of path) (path_limit path) seen

-- what a search that began with these spreads has done
abbrev pub SearchesFor : {X : Type 0} → FragmentSearch → (Node FragmentSpread → Type 0) → RecursionStack →
    (old new : List (Bor NameText)) → Result X (CycleError FragmentSpread) → Type 0
SearchesFor search begins path old new result =
    Searches SpreadsBy (fragment_of (fragments_of search.document.now)) (λ p. p.value.value.fragment_name)
    search.root.now begins (path_of path) (path_limit path) old new result
