-- The contents of selections, and their numbers.
use Rattle.std.specs.Prelude.{◌≡◌, ◌++◌, ℕ, Bool, false, List, [], Some, All, IsTrue, slice_get}
use Rattle.std.specs.List.{AllZip}
use Rattle.std.specs.Option.{option_map_or}
use Rattle.graphql_documents.specs.Selections.{selections_of}
use Rattle.graphql_documents.specs.contracts.documents.executables.SelectionPartialEq.TheImpl as selection_impl
use Rattle.graphql_documents.specs.declared.documents.executables.Selection.{Selection, out-Selection}
use Rattle.graphql_documents.specs.declared.documents.executables.Selection.TheOpen as Open
use Rattle.graphql_contents.specs.Written.{IsWrittenIn}
use Rattle.graphql_contents.specs.declared.contents.Content.{Content}

-- what `==` answers of two selections: it compares contents
abbrev pub same_contents : Selection → Selection → Bool
same_contents = selection_impl.ghosts.eq

-- the selection has the contents with this number
abbrev pub has_number : List Content → Selection → ℕ → Bool
has_number contents s n = option_map_or (λ c. same_contents s c.selection.now) (slice_get contents n) false

abbrev pub HasNumber : List Content → Selection → ℕ → Type 0
HasNumber contents s n = IsTrue (has_number contents s n)

-- these are the numbers of the contents of selections, in order
abbrev pub AreNumbered : List Content → List Selection → List ℕ → Type 0
AreNumbered contents selections numbers = AllZip (HasNumber contents) selections numbers

-- the selections in the set of a selection
abbrev pub nested_selections : Selection → List Selection
nested_selections s = elim (out-Selection s) [
  | Open.Field f ↦ selections_of f.value.value.selection_set
  | Open.FragmentSpread p ↦ []
  | Open.InlineFragment i ↦ selections_of i.value.value.selection_set
]

-- the content is what a selection holds
pub record IsContentOf (contents : List Content) (s : Selection) (c : Content) : Type 0 where
  pub written : IsWrittenIn s c.written
  pub nested : AreNumbered contents (nested_selections s) c.nested.items

-- each content is what its selection holds, and no selection has the contents of two
pub record IsTable (contents : List Content) : Type 0 where
  pub own : All (λ c. IsContentOf contents c.selection.now c) contents
  pub once : (m n : ℕ) (a b : Content) → slice_get contents m ≡ Some a → slice_get contents n ≡ Some b →
      IsTrue (same_contents a.selection.now b.selection.now) → m ≡ n

-- numbers that were given stay
abbrev pub Grows : List Content → List Content → Type 0
Grows old new = (more : List Content) × (new ≡ old ++ more)
