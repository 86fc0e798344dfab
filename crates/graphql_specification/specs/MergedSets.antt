-- Sets of fields that are merged together: in which order they are found, how their fields are grouped and compared, and what a
-- diagnostic says of them. Specification: draft, 5.3.2 Field Selection Merging.
use Rattle.std.specs.Prelude.{Option, None, Some, List, filter_map, ◌∷◌, [], IsTrue, IsFalse, ◌++◌, filter, Bool, true, false, ◌≡◌, Contains, map, is_some, slice_get, ◌≢◌, All, flat_map, ℕ, ◌-◌, length, ◌<◌, ◌≤◌, AllPairs}
use Rattle.std.specs.List.{list_any}
use Rattle.graphql_nodes.specs.Names.{NameText, same_name, SameName, different_names}
use Rattle.graphql_specification.specs.Merging.{FieldSelection, set_of, ParentsMayOverlap, SameKey, SameNameAndArguments, SameResponseShape, type_of, FieldInExpandedSet, SameFields, Chain, Pass, field_pass, shape_pass, Conflict}
use Rattle.graphql_documents.specs.Selections.{selections_of, Fragments, response_key}
use Rattle.graphql_documents.specs.Schemas.{type_definition}
use Rattle.graphql_documents.specs.Contents.{SameField}
use Rattle.graphql_documents.specs.TypeReferences.{same_type}
use Rattle.graphql_documents.specs.declared.documents.executables.Selection.{Selection, out-Selection}
use Rattle.graphql_documents.specs.declared.documents.executables.Field.{Field}
use Rattle.graphql_documents.specs.declared.documents.executables.InlineFragment.{InlineFragment}
use Rattle.graphql_documents.specs.declared.documents.executables.FragmentSpread.{FragmentSpread}
use Rattle.graphql_documents.specs.declared.documents.executables.SelectionSet.{SelectionSet}
use Rattle.graphql_nodes.specs.declared.nodes.Node.{Node}
use Rattle.graphql_documents.specs.declared.documents.executables.Fragment.{Fragment}
use Rattle.graphql_documents.specs.declared.documents.schemas.ExtendedType.{ExtendedType}
use Rattle.graphql_documents.specs.declared.documents.schemas.ExtendedType.TheVariants.{Interface, Union, Object}
use Rattle.graphql_documents.specs.declared.documents.schemas.Schema.{Schema}
use Rattle.graphql_documents.specs.declared.documents.executables.Operation.{Operation}
use Rattle.graphql_diagnostics.specs.declared.details.Details.{Details}
use Rattle.graphql_nodes.specs.declared.spans.SourceSpan.{SourceSpan}
use Rattle.graphql_diagnostics.specs.declared.lists.DiagnosticEntry.{DiagnosticEntry}
use Rattle.graphql_nodes.specs.declared.errors.RecursionLimitError.{RecursionLimitError}
use Rattle.graphql_documents.specs.declared.documents.executables.Selection.TheOpen as Open
use Rattle.graphql_documents.specs.declared.documents.executables.Selection.TheVariants as kind
use Rattle.graphql_diagnostics.specs.declared.details.Details.TheVariants as details

-- a selection as a field of a set of this type, if it is one
abbrev pub as_field : NameText → Selection → Option FieldSelection
as_field parent s = elim (out-Selection s) [
  | Open.Field f ↦ Some (record { parent = parent; field = f })
  | Open.FragmentSpread p ↦ None
  | Open.InlineFragment i ↦ None
]

-- the fields that are in the set, in order
abbrev pub fields_standing : SelectionSet → List FieldSelection
fields_standing set = filter_map (as_field set.ty) (selections_of set)

-- a list that begins with the set of a fragment, if the fragment is there
abbrev pub followed_by : Option (Node Fragment) → List SelectionSet → List SelectionSet
followed_by None sets = sets
followed_by (Some d) sets = d.value.value.selection_set ∷ sets

-- the sets of the fragments among the selections, in order, where these names of fragments were visited
-- before; and the names visited by then
pub data FragmentSets (fragments : Fragments) : List NameText → List Selection → List SelectionSet → List NameText → Type 0 where
  no_more : {seen : List NameText} → FragmentSets fragments seen [] [] seen
  past_field : {seen visited : List NameText} {sets : List SelectionSet} (f : Node Field) (rest : List Selection) →
      FragmentSets fragments seen rest sets visited →
      FragmentSets fragments seen (kind.Field f ∷ rest) sets visited
  into_inline_fragment : {seen visited : List NameText} {sets : List SelectionSet} (i : Node InlineFragment) (rest : List Selection) →
      FragmentSets fragments seen rest sets visited →
      FragmentSets fragments seen (kind.InlineFragment i ∷ rest) (i.value.value.selection_set ∷ sets) visited
  past_spread : {seen visited : List NameText} {sets : List SelectionSet} (p : Node FragmentSpread) (rest : List Selection) →
      IsTrue (list_any (same_name p.value.value.fragment_name) seen) →
      FragmentSets fragments seen rest sets visited →
      FragmentSets fragments seen (kind.FragmentSpread p ∷ rest) sets visited
  into_spread : {seen visited : List NameText} {sets : List SelectionSet} (p : Node FragmentSpread) (rest : List Selection) →
      IsFalse (list_any (same_name p.value.value.fragment_name) seen) →
      FragmentSets fragments (p.value.value.fragment_name ∷ seen) rest sets visited →
      FragmentSets fragments seen (kind.FragmentSpread p ∷ rest) (followed_by (fragments p.value.value.fragment_name) sets) visited

-- the fields of a queue of sets: those of its first set, whose fragments' sets go to its end, and then
-- those of the others. Each named fragment is visited once
pub data ExpandsFrom (fragments : Fragments) : List NameText → List SelectionSet → List FieldSelection → Type 0 where
  expanded : {seen : List NameText} → ExpandsFrom fragments seen [] []
  expand_next : {seen visited : List NameText} {set : SelectionSet} {queue more : List SelectionSet} {fields : List FieldSelection} →
      FragmentSets fragments seen (selections_of set) more visited →
      ExpandsFrom fragments visited (queue ++ more) fields →
      ExpandsFrom fragments seen (set ∷ queue) (fields_standing set ++ fields)

-- the fields of the sets and of the fragments in them
abbrev pub Expansion : Fragments → List SelectionSet → List FieldSelection → Type 0
Expansion fragments sets fields = ExpandsFrom fragments [] sets fields

-- the fields under the response key of x
abbrev pub with_key_of : FieldSelection → List FieldSelection → List FieldSelection
with_key_of x fields = filter (λ y. same_name (response_key y.field.value.value) (response_key x.field.value.value)) fields

-- the parent is an interface or a union
abbrev pub is_abstract : Option ExtendedType → Bool
is_abstract (Some (Interface d)) = true
is_abstract (Some (Union d)) = true
is_abstract _ = false

-- the parent is an object type, and of this name
abbrev pub is_object_named : NameText → Option ExtendedType → Bool
is_object_named name (Some (Object d)) = same_name d.value.value.name name
is_object_named name _ = false

-- the parent is an object type
abbrev pub is_object : Option ExtendedType → Bool
is_object (Some (Object d)) = true
is_object _ = false

-- the fields whose parents pass the test, in order
abbrev pub with_parents : Schema → (Option ExtendedType → Bool) → List FieldSelection → List FieldSelection
with_parents schema test fields = filter (λ x. test (type_definition schema x.parent)) fields

-- these fields of a list are put together in a pass: all with one key; or, of those, the fields of one
-- object type and then those of abstract types; or those of abstract types, where there is no object type
pub data IsGroup (schema : Schema) (fields : List FieldSelection) : Pass → List FieldSelection → Type 0 where
  group_by_key : {x : FieldSelection} → Contains fields x → IsGroup schema fields shape_pass (with_key_of x fields)
  group_by_object : {x : FieldSelection} (name : NameText) →
      Contains fields x → IsTrue (is_object_named name (type_definition schema x.parent)) →
      IsGroup schema fields field_pass
      (with_parents schema (is_object_named name) (with_key_of x fields) ++ with_parents schema is_abstract (with_key_of x fields))
  group_of_abstract : {x : FieldSelection} →
      Contains fields x → IsTrue (is_abstract (type_definition schema x.parent)) →
      with_parents schema is_object (with_key_of x fields) ≡ [] →
      IsGroup schema fields field_pass (with_parents schema is_abstract (with_key_of x fields))

-- the sets of the fields that select something
abbrev pub nested_sets : List FieldSelection → List SelectionSet
nested_sets fields = filter (λ set. is_some (slice_get (selections_of set) 0)) (map set_of fields)

-- a step from a list of fields to the list below one of its groups
pub record MergesBelow (schema : Schema) (fragments : Fragments) (pass : Pass) (fields below : List FieldSelection) : Type 0 where
  pub group : List FieldSelection
  pub is_group : IsGroup schema fields pass group
  pub nested : nested_sets group ≢ []
  pub expansion : Expansion fragments (nested_sets group) below

-- the lists of fields that are put together, from the operations' sets down
pub data MergedSet (schema : Schema) (fragments : Fragments) (operations : List (Node Operation)) (pass : Pass) : List FieldSelection → Type 0 where
  merged_operation : {o : Node Operation} {fields : List FieldSelection} →
      Contains operations o → Expansion fragments (o.value.value.selection_set ∷ []) fields →
      MergedSet schema fragments operations pass fields
  merged_below : {fields below : List FieldSelection} →
      MergedSet schema fragments operations pass fields → MergesBelow schema fragments pass fields below →
      MergedSet schema fragments operations pass below

-- two fields are put together: they have one key, and where names and arguments are compared, parents
-- that may overlap
abbrev pub ArePutTogether : Schema → Pass → FieldSelection → FieldSelection → Type 0
ArePutTogether schema shape_pass a b = SameKey a b
ArePutTogether schema field_pass a b = SameKey a b × ParentsMayOverlap schema a b

-- what must hold of two fields that are put together
abbrev pub Agree : Schema → Pass → FieldSelection → FieldSelection → Type 0
Agree schema shape_pass a b = SameResponseShape schema (type_of a) (type_of b)
Agree schema field_pass a b = SameNameAndArguments a.field.value.value b.field.value.value

-- x inside the first set and y inside the second meet: they are put together, or they meet below the sets
-- of two fields that are
pub data Meet (schema : Schema) (fragments : Fragments) (pass : Pass) : SelectionSet → SelectionSet → FieldSelection → FieldSelection → Type 0 where
  meet_here : {s t : SelectionSet} {x y : FieldSelection} →
      FieldInExpandedSet fragments s x → FieldInExpandedSet fragments t y → ArePutTogether schema pass x y →
      Meet schema fragments pass s t x y
  meet_below : {s t : SelectionSet} (u v : FieldSelection) {x y : FieldSelection} →
      FieldInExpandedSet fragments s u → FieldInExpandedSet fragments t v → ArePutTogether schema pass u v →
      Meet schema fragments pass (set_of u) (set_of v) x y →
      Meet schema fragments pass s t x y

-- all fields that meet in a set agree, in each pass
abbrev pub MeetingFieldsAgree : Schema → Fragments → SelectionSet → Type 0
MeetingFieldsAgree schema fragments set =
    (pass : Pass) (x y : FieldSelection) → Meet schema fragments pass set set x y → Agree schema pass x y

-- in each group of the list the first field agrees with the rest
abbrev pub ListPasses : Schema → Pass → List FieldSelection → Type 0
ListPasses schema pass fields =
    (group : List FieldSelection) (first : FieldSelection) (rest : List FieldSelection) →
    IsGroup schema fields pass group → group ≡ first ∷ rest → All (Agree schema pass first) rest

-- what two fields of the same contents have in common: key, name, arguments and type, and for each field
-- inside the set of the one, one inside the set of the other that is the same, on a type of the same name
pub record AreAlike (fragments : Fragments) (a b : Field) : Type 0 where
  pub key : SameName (response_key a) (response_key b)
  pub name_and_arguments : SameNameAndArguments a b
  pub ty : IsTrue (same_type a.definition.value.value.ty b.definition.value.value.ty)
  pub inside : (x : FieldSelection) → FieldInExpandedSet fragments a.selection_set x →
      (y : FieldSelection) × FieldInExpandedSet fragments b.selection_set y × SameName x.parent y.parent × SameField x.field.value.value y.field.value.value

-- a list that was seen has the same fields as the expansion of these sets
pub record ExpansionIsSeen (fragments : Fragments) (seen : List (List FieldSelection)) (sets : List SelectionSet) : Type 0 where
  pub fields : List FieldSelection
  pub known : List FieldSelection
  pub expansion : Expansion fragments sets fields
  pub is_seen : Contains seen known
  pub same_fields : SameFields fields known

-- a walk has seen these lists, all of them merged: the fields of each operation, and those below each group
-- of a list that was seen
pub record HasSeen (schema : Schema) (fragments : Fragments) (operations : List (Node Operation)) (pass : Pass) (seen : List (List FieldSelection)) : Type 0 where
  pub merged : All (MergedSet schema fragments operations pass) seen
  pub begun : (o : Node Operation) → Contains operations o → ExpansionIsSeen fragments seen (o.value.value.selection_set ∷ [])
  pub closed : (fields group : List FieldSelection) → Contains seen fields → IsGroup schema fields pass group → nested_sets group ≢ [] →
      ExpansionIsSeen fragments seen (nested_sets group)

-- the response key of a field
abbrev pub key_of : FieldSelection → NameText
key_of x = response_key x.field.value.value

-- the response keys of the fields, each once, in order of first field
abbrev pub keys_of : List FieldSelection → List NameText
keys_of fields = different_names (map key_of fields)

-- the fields under a key, in order
abbrev pub under_key : NameText → List FieldSelection → List FieldSelection
under_key key fields = filter (λ x. same_name (key_of x) key) fields

-- the own name of an object type; other types give none
abbrev pub object_name : Option ExtendedType → Option NameText
object_name (Some (Object d)) = Some d.value.value.name
object_name _ = None

-- the object types on which the fields are, by their own names, each once, in order of first field
abbrev pub objects_of : Schema → List FieldSelection → List NameText
objects_of schema fields = different_names (filter_map (λ x. object_name (type_definition schema x.parent)) fields)

-- the fields on one object type, and then those on abstract types
abbrev pub on_object : Schema → List FieldSelection → NameText → List FieldSelection
on_object schema fields name = with_parents schema (is_object_named name) fields ++ with_parents schema is_abstract fields

-- the list alone, unless it is empty
abbrev pub unless_empty : List FieldSelection → List (List FieldSelection)
unless_empty [] = []
unless_empty (x ∷ xs) = (x ∷ xs) ∷ []

-- the fields on each of these object types with those on abstract types; or the latter alone, where there
-- is no object type
abbrev pub groups_on : Schema → List FieldSelection → List NameText → List (List FieldSelection)
groups_on schema fields [] = unless_empty (with_parents schema is_abstract fields)
groups_on schema fields (name ∷ names) = map (on_object schema fields) (name ∷ names)

-- the groups of a list in a pass, in order of first field: one for each key, and in the field pass one for
-- each object type under it
abbrev pub groups_of : Schema → Pass → List FieldSelection → List (List FieldSelection)
groups_of schema shape_pass fields = map (λ key. under_key key fields) (keys_of fields)
groups_of schema field_pass fields =
    flat_map (λ key. groups_on schema (under_key key fields) (objects_of schema (under_key key fields))) (keys_of fields)

-- how many comparisons of shapes a list takes: one for each field but the first under its key
abbrev pub comparisons_of : List FieldSelection → ℕ
comparisons_of fields = length fields - length (keys_of fields)

-- the diagnostic is that of two fields that were put together and do not agree
abbrev pub ConflictReport : Schema → Pass → FieldSelection → FieldSelection → Details → Option SourceSpan → Type 0
ConflictReport schema pass x y (details.Build e) at = Conflict schema pass x y e at
ConflictReport schema pass x y _ at = ⊥

-- the diagnostics are of the fields that do not agree with the first, one for each, in order
pub data ConflictsWith (schema : Schema) (pass : Pass) (first : FieldSelection) : List FieldSelection → List DiagnosticEntry → Type 0 where
  no_field : ConflictsWith schema pass first [] []
  agreeing_field : {x : FieldSelection} {rest : List FieldSelection} {reports : List DiagnosticEntry} →
      Agree schema pass first x → ConflictsWith schema pass first rest reports →
      ConflictsWith schema pass first (x ∷ rest) reports
  conflicting_field : {x : FieldSelection} {rest : List FieldSelection} {entry : DiagnosticEntry} {reports : List DiagnosticEntry} →
      ConflictReport schema pass first x entry.details entry.location → ConflictsWith schema pass first rest reports →
      ConflictsWith schema pass first (x ∷ rest) (entry ∷ reports)

-- the diagnostics are those of these groups, in order: of each further field that does not agree with the first
-- of its group
pub data AreConflicts (schema : Schema) (pass : Pass) : List (List FieldSelection) → List DiagnosticEntry → Type 0 where
  no_groups : AreConflicts schema pass [] []
  empty_group : {groups : List (List FieldSelection)} {reports : List DiagnosticEntry} →
      AreConflicts schema pass groups reports → AreConflicts schema pass ([] ∷ groups) reports
  next_group : {first : FieldSelection} {rest : List FieldSelection} {groups : List (List FieldSelection)} {here reports : List DiagnosticEntry} →
      ConflictsWith schema pass first rest here → AreConflicts schema pass groups reports →
      AreConflicts schema pass ((first ∷ rest) ∷ groups) (here ++ reports)

-- the groups of these lists, list by list
abbrev pub groups_of_lists : Schema → Pass → List (List FieldSelection) → List (List FieldSelection)
groups_of_lists schema pass lists = flat_map (groups_of schema pass) lists

-- how deep the fields of an operation are merged
abbrev pub merging_depth_limit : ℕ
merging_depth_limit = 128

-- lists of fields, each below a group of the one before; so many steps, no list twice
pub data MergingDescent (schema : Schema) (fragments : Fragments) (pass : Pass) : List FieldSelection → List (List FieldSelection) → Type 0 where
  merging_ends : {fields : List FieldSelection} → MergingDescent schema fragments pass fields []
  merging_steps : {fields below : List FieldSelection} {further : List (List FieldSelection)} →
      MergesBelow schema fragments pass fields below → MergingDescent schema fragments pass below further →
      MergingDescent schema fragments pass fields (below ∷ further)

-- the fields of an operation nest too deep to be merged: some chain of fields passes the limit, and so
-- do the steps of a pass from the operation's fields, no list of the same fields twice
pub record MergingPasses (schema : Schema) (fragments : Fragments) (set : SelectionSet) : Type 0 where
  pub chain : List FieldSelection
  pub last : FieldSelection
  pub is_chain : Chain fragments set (chain ++ last ∷ [])
  pub chain_passes : merging_depth_limit ≤ length chain
  pub last_selects : selections_of (set_of last) ≢ []
  pub pass : Pass
  pub fields : List FieldSelection
  pub steps : List (List FieldSelection)
  pub begins : Expansion fragments (set ∷ []) fields
  pub descent : MergingDescent schema fragments pass fields steps
  pub once : AllPairs (λ a b. ¬ SameFields a b) (fields ∷ steps)
  pub steps_pass : merging_depth_limit < length steps

-- the fields of one of these operations, the ones merged so far, nest too deep: reported at the last of
-- them
pub record MergingNestsTooDeep (schema : Schema) (fragments : Fragments) (before : List (Node Operation)) (o : Node Operation) (at : Option SourceSpan) : Type 0 where
  pub deep : Node Operation
  pub is_merged : Contains (before ++ o ∷ []) deep
  pub passes : MergingPasses schema fragments deep.value.value.selection_set
  pub at_is : at ≡ o.location

-- a diagnostic of a limit is true of an operation that is merged after these
pub data MergingLimit (schema : Schema) (fragments : Fragments) (before : List (Node Operation)) (o : Node Operation) : Details → Option SourceSpan → Type 0 where
  merging_nests : {limit : RecursionLimitError} {at : Option SourceSpan} →
      MergingNestsTooDeep schema fragments before o at →
      MergingLimit schema fragments before o (details.RecursionLimit limit) at
