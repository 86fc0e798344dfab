-- Selections and the places where they are. Specification: 2.4 Selection Sets to 2.8 Fragments.
use Rattle.std.specs.Prelude.{unwrap_or, List, Contains, [], Option, None, if◌then◌else◌, ◌≡◌, Some, ◌++◌, All, IsTrue, Bool, filter_map}
use Rattle.std.specs.Option.{option_and_then}
use Rattle.std.specs.Result.{result_ok}
use Rattle.std.specs.List.{list_any}
use Rattle.indexmap.specs.IndexMap.{get}
use Rattle.graphql_nodes.specs.Names.{NameText, same_name, stands_on, SameName}
use Rattle.graphql_documents.specs.Schemas.{type_field}
use Rattle.graphql_documents.specs.TypeReferences.{inner_named_type}
use Rattle.graphql_documents.specs.Directives.{may_exclude}
use Rattle.graphql_documents.specs.declared.documents.executables.Field.{Field}
use Rattle.graphql_documents.specs.declared.documents.executables.Selection.{Selection, out-Selection}
use Rattle.graphql_documents.specs.declared.documents.executables.SelectionSet.{SelectionSet}
use Rattle.graphql_nodes.specs.declared.nodes.Node.{Node}
use Rattle.graphql_documents.specs.declared.documents.executables.InlineFragment.{InlineFragment}
use Rattle.graphql_documents.specs.declared.documents.directives.Directive.{Directive}
use Rattle.graphql_documents.specs.declared.documents.executables.FragmentSpread.{FragmentSpread}
use Rattle.graphql_documents.specs.declared.documents.directives.Argument.{Argument}
use Rattle.graphql_documents.specs.declared.documents.executables.Fragment.{Fragment}
use Rattle.graphql_documents.specs.declared.documents.executables.ExecutableDocument.{ExecutableDocument}
use Rattle.graphql_documents.specs.declared.documents.components.Component.{Component}
use Rattle.graphql_documents.specs.declared.documents.definitions.FieldDefinition.{FieldDefinition}
use Rattle.graphql_documents.specs.declared.documents.schemas.Schema.{Schema}
use Rattle.graphql_documents.specs.declared.documents.executables.Selection.TheVariants as kind
use Rattle.graphql_documents.specs.declared.documents.executables.Selection.TheOpen as Open

-- the key of a field in a response: its alias, else its name. Specification: 2.7 Field Alias
abbrev pub response_key : Field → NameText
response_key f = unwrap_or f.alias f.name

-- the selections of a set, in order
abbrev pub selections_of : SelectionSet → List Selection
selections_of set = set.selections.items

-- the set, and the sets that are written in it, at any depth, spreads not followed
pub data SetWritten : SelectionSet → SelectionSet → Type 0 where
  set_itself : {set : SelectionSet} → SetWritten set set
  set_in_field : {set inner : SelectionSet} {f : Node Field} →
      Contains (selections_of set) (kind.Field f) → SetWritten f.value.value.selection_set inner → SetWritten set inner
  set_in_inline_fragment : {set inner : SelectionSet} {i : Node InlineFragment} →
      Contains (selections_of set) (kind.InlineFragment i) → SetWritten i.value.value.selection_set inner → SetWritten set inner

-- the selection is in the set or at any depth below it, spreads not followed
abbrev pub Written : SelectionSet → Selection → Type 0
Written set s = (inner : SelectionSet) × SetWritten set inner × Contains (selections_of inner) s

-- the directives of a selection
abbrev pub directives_of : Selection → List (Node Directive)
directives_of s = elim (out-Selection s) [
  | Open.Field f ↦ f.value.value.directives.items
  | Open.FragmentSpread p ↦ p.value.value.directives.items
  | Open.InlineFragment i ↦ i.value.value.directives.items
]

-- the arguments of a field; other selections have none
abbrev pub arguments_of : Selection → List (Node Argument)
arguments_of s = elim (out-Selection s) [
  | Open.Field f ↦ f.value.value.arguments.items
  | Open.FragmentSpread p ↦ []
  | Open.InlineFragment i ↦ []
]

-- how a name finds its fragment, if any is defined. Specification: 5.5.2.1 Fragment Spread Target Defined
abbrev pub Fragments : Type 0
Fragments = NameText → Option (Node Fragment)

-- a field set has no fragments of its own
abbrev pub no_fragments : Fragments
no_fragments name = None

-- the fragments of a document
abbrev pub fragments_of : ExecutableDocument → Fragments
fragments_of document name = get same_name document.fragments name

-- the fragments without those that were visited: what is placed among these is reached without going
-- through the others
abbrev pub without : List NameText → Fragments → Fragments
without visited_fragments fragments name = if stands_on visited_fragments name then None else fragments name

-- a set, and the sets of the inline fragments and spread fragments in it, at any depth but not below
-- a field
pub data Includes (fragments : Fragments) : SelectionSet → SelectionSet → Type 0 where
  includes_itself : {set : SelectionSet} → Includes fragments set set
  includes_inline_fragment : {set inner : SelectionSet} {i : Node InlineFragment} →
      Contains (selections_of set) (kind.InlineFragment i) →
      Includes fragments i.value.value.selection_set inner →
      Includes fragments set inner
  includes_spread : {set inner : SelectionSet} {p : Node FragmentSpread} {d : Node Fragment} →
      Contains (selections_of set) (kind.FragmentSpread p) →
      fragments p.value.value.fragment_name ≡ Some d →
      Includes fragments d.value.value.selection_set inner →
      Includes fragments set inner

-- the selection is in the set, or in that of a fragment in it. Specification: 5.3.2 Field Selection Merging, "including visiting fragments and inline
-- fragments"
abbrev pub InExpandedSet : Fragments → SelectionSet → Selection → Type 0
InExpandedSet fragments set s = (inner : SelectionSet) × Includes fragments set inner × Contains (selections_of inner) s

-- the selection is inside the set, or inside the set of a field that is reached
pub data Reachable (fragments : Fragments) : SelectionSet → Selection → Type 0 where
  reachable_inside : {set : SelectionSet} {s : Selection} → InExpandedSet fragments set s → Reachable fragments set s
  reachable_below : {set : SelectionSet} {s : Selection} {f : Node Field} →
      InExpandedSet fragments set (kind.Field f) → Reachable fragments f.value.value.selection_set s → Reachable fragments set s

-- the definition of a field on a type: none without a schema, where the type is not known, or where it
-- lacks the field. Specification: 5.3.1 Field Selections
abbrev pub definition_at : Option Schema → Option NameText → NameText → Option (Component FieldDefinition)
definition_at schema parent field =
    option_and_then (λ s. option_and_then (λ t. result_ok (type_field s t field)) parent) schema

-- the type on which the selections in a field's set are: that of the field, and none below a type that is not known. Below a field that its type
-- lacks nothing has a place
pub data IsSubselectionParent (schema : Option Schema) : Option NameText → NameText → Option NameText → Type 0 where
  parent_unknown : {field : NameText} → IsSubselectionParent schema None field None
  parent_known : {parent : Option NameText} {field : NameText} {d : Component FieldDefinition} →
      definition_at schema parent field ≡ Some d →
      IsSubselectionParent schema parent field (Some (inner_named_type d.node.value.value.ty))

-- the type of selections under a type condition: with a schema the condition, or the type around it where there is none
abbrev pub type_under : Option Schema → Option NameText → Option NameText → Option NameText
type_under None parent condition = None
type_under (Some schema) parent None = parent
type_under (Some schema) parent (Some condition) = Some condition

-- s is reached from these selections, which are on the first type, and is on the second: it is one of them, or is reached from the set of a field,
-- inline fragment or spread fragment among them
pub data ReachableOn (schema : Option Schema) (fragments : Fragments) : Option NameText → List Selection → Selection → Option NameText → Type 0 where
  standing_at : {parent : Option NameText} {selections : List Selection} {s : Selection} →
      Contains selections s →
      ReachableOn schema fragments parent selections s parent
  reachable_in_field : {parent below at : Option NameText} {selections : List Selection} {s : Selection} (f : Node Field) →
      Contains selections (kind.Field f) →
      IsSubselectionParent schema parent f.value.value.name below →
      ReachableOn schema fragments below (selections_of f.value.value.selection_set) s at →
      ReachableOn schema fragments parent selections s at
  reachable_in_inline_fragment : {parent at : Option NameText} {selections : List Selection} {s : Selection} (i : Node InlineFragment) →
      Contains selections (kind.InlineFragment i) →
      ReachableOn schema fragments (type_under schema parent i.value.value.type_condition) (selections_of i.value.value.selection_set) s at →
      ReachableOn schema fragments parent selections s at
  reachable_in_spread : {parent at : Option NameText} {selections : List Selection} {s : Selection} {p : Node FragmentSpread} (d : Node Fragment) →
      Contains selections (kind.FragmentSpread p) →
      fragments p.value.value.fragment_name ≡ Some d →
      ReachableOn schema fragments (type_under schema parent (Some d.value.value.selection_set.ty)) (selections_of d.value.value.selection_set) s at →
      ReachableOn schema fragments parent selections s at

-- a spread of this name is reached from these selections, which are on the type
pub record IsSpreadFrom (schema : Option Schema) (fragments : Fragments) (parent : Option NameText) (selections : List Selection) (name : NameText) : Type 0 where
  pub p : Node FragmentSpread
  pub here : Option NameText
  pub reachable_on : ReachableOn schema fragments parent selections (kind.FragmentSpread p) here
  pub named : SameName p.value.value.fragment_name name

-- a walk over these selections goes into fragments: behind those that it had visited it has others, each of
-- which is spread at a place that is reached without going through the former
pub record Visits (schema : Option Schema) (fragments : Fragments) (parent : Option NameText) (selections : List Selection) (old new : List NameText) : Type 0 where
  pub further : List NameText
  pub grown : new ≡ old ++ further
  pub spread : All (IsSpreadFrom schema (without old fragments) parent selections) further

-- it has visited each fragment that is so spread
abbrev pub HasVisited : Option Schema → Fragments → Option NameText → List Selection → List NameText → List NameText → Type 0
HasVisited schema fragments parent selections old new =
    (name : NameText) → IsSpreadFrom schema (without old fragments) parent selections name → IsTrue (stands_on new name)

-- a directive may leave the selection out
abbrev pub can_be_excluded : Selection → Bool
can_be_excluded s = list_any (λ d. may_exclude d.value.value) (directives_of s)

-- a selection as a field, if it is one
abbrev pub field_of : Selection → Option (Node Field)
field_of s = elim (out-Selection s) [
  | Open.Field f ↦ Some f
  | Open.FragmentSpread p ↦ None
  | Open.InlineFragment i ↦ None
]

-- the fields among selections, in order
abbrev pub fields_among : List Selection → List (Node Field)
fields_among selections = filter_map field_of selections
