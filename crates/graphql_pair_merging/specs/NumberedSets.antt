-- The sets of a document by numbers.
use Rattle.std.specs.Prelude.{◌≡◌, ◌++◌, ℕ, List, Option, None, Some, All, Contains, filter_map, length, map, slice_get, sum_by}
use Rattle.std.specs.Borrow.{Bor}
use Rattle.std.specs.Option.{option_map}
use Rattle.indexmap.specs.IndexMap.{IndexMap, values}
use Rattle.graphql_nodes.specs.Names.{NameText}
use Rattle.graphql_nodes.specs.declared.nodes.Node.{Node}
use Rattle.graphql_documents.specs.Selections.{Fragments, selections_of}
use Rattle.graphql_documents.specs.declared.documents.executables.Fragment.{Fragment}
use Rattle.graphql_documents.specs.declared.documents.executables.Operation.{Operation}
use Rattle.graphql_documents.specs.declared.documents.executables.Selection.{Selection, out-Selection}
use Rattle.graphql_documents.specs.declared.documents.executables.Selection.TheOpen as Open
use Rattle.graphql_documents.specs.declared.documents.executables.SelectionSet.{SelectionSet}
use Rattle.graphql_specification.specs.MergedSets.{as_field}
use Rattle.graphql_specification.specs.Merging.{FieldSelection, set_of}
use Rattle.graphql_field_conflicts.specs.FieldSelections.{selection_of}
use Rattle.graphql_value_numbers.specs.Arguments.{HaveNumber}
use Rattle.graphql_value_numbers.specs.declared.shapes.Shape.{Shape}
use Rattle.graphql_pair_merging.specs.declared.numbered_sets.NumberedField.{NumberedField}
use Rattle.graphql_pair_merging.specs.declared.numbered_sets.NumberedSet.{NumberedSet}

-- the set of a fragment among selections: of an inline fragment, or of the one that a spread names, if it is defined
abbrev pub fragment_set : Fragments → Selection → Option SelectionSet
fragment_set fragments s = elim (out-Selection s) [
  | Open.Field f ↦ None
  | Open.FragmentSpread p ↦ option_map (λ d. d.value.value.selection_set) (fragments p.value.value.fragment_name)
  | Open.InlineFragment i ↦ Some i.value.value.selection_set
]

-- the set that is written in a selection
abbrev pub written_set : Selection → Option SelectionSet
written_set s = elim (out-Selection s) [
  | Open.Field f ↦ Some f.value.value.selection_set
  | Open.FragmentSpread p ↦ None
  | Open.InlineFragment i ↦ Some i.value.value.selection_set
]

-- sets by references
abbrev pub sets_at : List (Bor SelectionSet) → List SelectionSet
sets_at sets = map (λ set. set.now) sets

-- the sets of operations
abbrev pub operation_sets : List (Bor (Node Operation)) → List SelectionSet
operation_sets operations = map (λ o. o.now.value.value.selection_set) operations

-- numbered sets as sets
abbrev pub sets_of : List NumberedSet → List SelectionSet
sets_of numbered = map (λ x. x.set.now) numbered

-- a field without its number
abbrev pub field_of : NumberedField → FieldSelection
field_of x = selection_of x.field

-- the fields and fragments are those among these selections of a set of this type, each with the number of its set
pub record Describes (fragments : Fragments) (sets : List SelectionSet) (parent : NameText) (selections : List Selection) (x : NumberedSet) : Type 0 where
  pub fields : map field_of x.fields.items ≡ filter_map (as_field parent) selections
  pub own_sets : All (λ f. slice_get sets f.set ≡ Some (set_of (field_of f))) x.fields.items
  pub fragment_sets : map (slice_get sets) x.fragments.items ≡ map Some (filter_map (fragment_set fragments) selections)

-- each of the numbered sets is so described, and these are the numbers of those sets
pub record AreNumbered (fragments : Fragments) (numbers : List ℕ) (sets : List SelectionSet) (numbered : List NumberedSet) : Type 0 where
  pub described : All (λ x. Describes fragments (sets_of numbered) x.set.now.ty (selections_of x.set.now) x) numbered
  pub are_at : map (slice_get (sets_of numbered)) numbers ≡ map Some sets

-- the sets of the fragments, in order
abbrev pub sets_among : {S : Type 0} → IndexMap NameText (Node Fragment) S → List SelectionSet
sets_among fragments = map (λ d. d.value.value.selection_set) (values fragments)

-- these come first
abbrev pub Begins : {S : Type 0} → IndexMap NameText (Node Fragment) S → List SelectionSet → Type 0
Begins fragments sets = (more : List SelectionSet) × (sets ≡ sets_among fragments ++ more)

-- the field has the number of its arguments
abbrev pub HasArgumentNumber : List Shape → NumberedField → Type 0
HasArgumentNumber shapes f = HaveNumber shapes f.field.field.now.value.value.arguments.items f.arguments

-- each of the fields has
abbrev pub AreArgumentsNumbered : List Shape → List NumberedField → Type 0
AreArgumentsNumbered shapes fields = All (HasArgumentNumber shapes) fields

-- each field of each set has, and all numbers are of one table
pub record HaveArgumentNumbers (sets : List NumberedSet) : Type 0 where
  pub shapes : List Shape
  pub each : All (λ x. AreArgumentsNumbered shapes x.fields.items) sets

-- the same of some fields
pub record HaveNumbers (fields : List NumberedField) : Type 0 where
  pub shapes : List Shape
  pub each : (x : NumberedField) → Contains fields x → HasArgumentNumber shapes x

-- how many fields a set has, if there is one
abbrev pub count_in : Option NumberedSet → ℕ
count_in None = 0
count_in (Some set) = length set.fields.items

-- how many fields the sets with these numbers have
abbrev pub count_fields : List NumberedSet → List ℕ → ℕ
count_fields sets numbers = sum_by (λ n. count_in (slice_get sets n)) numbers
