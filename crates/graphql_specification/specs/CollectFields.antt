-- The fields that an object answers, by response key. Specification: 6.3.2 Field Collection, without
-- `@skip` and `@include`.
use Rattle.std.specs.Prelude.{◌≡◌, Some, Contains, IfSome, ◌⊎◌, List, [], ◌∷◌, ◌++◌, None, IsFalse, IsTrue, Any}
use Rattle.graphql_nodes.specs.Names.{NameText, SameName, stands_on}
use Rattle.graphql_documents.specs.Schemas.{type_definition, IsListed}
use Rattle.graphql_documents.specs.Selections.{Fragments, selections_of, response_key}
use Rattle.graphql_specification.specs.Merging.{FieldSelection, set_of}
use Rattle.graphql_nodes.specs.declared.nodes.Node.{Node}
use Rattle.graphql_documents.specs.declared.documents.schemas.Schema.{Schema}
use Rattle.graphql_documents.specs.declared.documents.schemas.ObjectType.{ObjectType}
use Rattle.graphql_documents.specs.declared.documents.schemas.InterfaceType.{InterfaceType}
use Rattle.graphql_documents.specs.declared.documents.schemas.UnionType.{UnionType}
use Rattle.graphql_documents.specs.declared.documents.schemas.ExtendedType.TheVariants.{Object, Interface, Union}
use Rattle.graphql_documents.specs.declared.documents.executables.SelectionSet.{SelectionSet}
use Rattle.graphql_documents.specs.declared.documents.executables.Field.{Field}
use Rattle.graphql_documents.specs.declared.documents.executables.InlineFragment.{InlineFragment}
use Rattle.graphql_documents.specs.declared.documents.executables.FragmentSpread.{FragmentSpread}
use Rattle.graphql_documents.specs.declared.documents.executables.Fragment.{Fragment}
use Rattle.graphql_documents.specs.declared.documents.executables.Selection.{Selection}
use Rattle.graphql_documents.specs.declared.documents.executables.Operation.{Operation}
use Rattle.graphql_documents.specs.declared.documents.executables.Selection.TheVariants as kind

-- what is selected on the type is selected on the object: it is the type itself, or lists it as an
-- interface, or is a member of it as a union. Specification: DoesFragmentTypeApply
pub data AppliesTo (schema : Schema) (object : NameText) : NameText → Type 0 where
  applies_itself : {ty : NameText} → SameName ty object → AppliesTo schema object ty
  applies_interface : {ty : NameText} {d : Node ObjectType} {i : Node InterfaceType} →
      type_definition schema object ≡ Some (Object d) → type_definition schema ty ≡ Some (Interface i) →
      IsListed ty d.value.value.implements_interfaces.keys → AppliesTo schema object ty
  applies_union : {ty : NameText} {d : Node ObjectType} {u : Node UnionType} →
      type_definition schema object ≡ Some (Object d) → type_definition schema ty ≡ Some (Union u) →
      IsListed object u.value.value.members.keys → AppliesTo schema object ty

-- the field is collected from the set: it is there or in the set of a fragment, through sets and conditions that all apply to the object
pub data CollectedFrom (schema : Schema) (fragments : Fragments) (object : NameText) : SelectionSet → FieldSelection → Type 0 where
  collected_here : {set : SelectionSet} {x : FieldSelection} →
      AppliesTo schema object set.ty → Contains (selections_of set) (kind.Field x.field) → x.parent ≡ set.ty →
      CollectedFrom schema fragments object set x
  collected_in_inline_fragment : {set : SelectionSet} {x : FieldSelection} {i : Node InlineFragment} →
      AppliesTo schema object set.ty → Contains (selections_of set) (kind.InlineFragment i) →
      IfSome i.value.value.type_condition (AppliesTo schema object) →
      CollectedFrom schema fragments object i.value.value.selection_set x →
      CollectedFrom schema fragments object set x
  collected_in_spread : {set : SelectionSet} {x : FieldSelection} {p : Node FragmentSpread} {d : Node Fragment} →
      AppliesTo schema object set.ty → Contains (selections_of set) (kind.FragmentSpread p) →
      fragments p.value.value.fragment_name ≡ Some d →
      CollectedFrom schema fragments object d.value.value.selection_set x →
      CollectedFrom schema fragments object set x

-- these fields are collected from selections of a set of the type, or from sets whose types may not
-- apply, depth first, where these names of fragments were visited before; and the names visited by then
mutual
  pub data CollectsAmong (schema : Schema) (fragments : Fragments) (object : NameText) : NameText → List NameText → List Selection → List FieldSelection → List NameText → Type 0 where
    collects_none : {parent : NameText} {seen : List NameText} → CollectsAmong schema fragments object parent seen [] [] seen
    collects_field : {parent : NameText} {seen visited : List NameText} {rest : List Selection} {fields : List FieldSelection} (f : Node Field) →
        CollectsAmong schema fragments object parent seen rest fields visited →
        CollectsAmong schema fragments object parent seen (kind.Field f ∷ rest) (record { parent = parent; field = f } ∷ fields) visited
    collects_inline_fragment : {parent : NameText} {seen between visited : List NameText} {rest : List Selection} {within fields : List FieldSelection} (i : Node InlineFragment) →
        IfSome i.value.value.type_condition (AppliesTo schema object) →
        CollectsIn schema fragments object seen i.value.value.selection_set within between →
        CollectsAmong schema fragments object parent between rest fields visited →
        CollectsAmong schema fragments object parent seen (kind.InlineFragment i ∷ rest) (within ++ fields) visited
    collects_past_inline_fragment : {parent condition : NameText} {seen visited : List NameText} {rest : List Selection} {fields : List FieldSelection} (i : Node InlineFragment) →
        i.value.value.type_condition ≡ Some condition → ¬ AppliesTo schema object condition →
        CollectsAmong schema fragments object parent seen rest fields visited →
        CollectsAmong schema fragments object parent seen (kind.InlineFragment i ∷ rest) fields visited
    collects_past_spread : {parent : NameText} {seen visited : List NameText} {rest : List Selection} {fields : List FieldSelection} (p : Node FragmentSpread) →
        IsTrue (stands_on seen p.value.value.fragment_name) ⊎ (fragments p.value.value.fragment_name ≡ None) →
        CollectsAmong schema fragments object parent seen rest fields visited →
        CollectsAmong schema fragments object parent seen (kind.FragmentSpread p ∷ rest) fields visited
    collects_spread : {parent : NameText} {seen between visited : List NameText} {rest : List Selection} {within fields : List FieldSelection} (p : Node FragmentSpread) (d : Node Fragment) →
        IsFalse (stands_on seen p.value.value.fragment_name) → fragments p.value.value.fragment_name ≡ Some d →
        CollectsIn schema fragments object (seen ++ p.value.value.fragment_name ∷ []) d.value.value.selection_set within between →
        CollectsAmong schema fragments object parent between rest fields visited →
        CollectsAmong schema fragments object parent seen (kind.FragmentSpread p ∷ rest) (within ++ fields) visited

  pub data CollectsIn (schema : Schema) (fragments : Fragments) (object : NameText) : List NameText → SelectionSet → List FieldSelection → List NameText → Type 0 where
    collects_set : {seen visited : List NameText} {set : SelectionSet} {fields : List FieldSelection} →
        AppliesTo schema object set.ty → CollectsAmong schema fragments object set.ty seen (selections_of set) fields visited →
        CollectsIn schema fragments object seen set fields visited
    collects_past_set : {seen : List NameText} {set : SelectionSet} →
        ¬ AppliesTo schema object set.ty → CollectsIn schema fragments object seen set [] seen

-- the fields collected from several sets: those of each set in order, each named fragment once
pub data CollectsFrom (schema : Schema) (fragments : Fragments) (object : NameText) : List NameText → List SelectionSet → List FieldSelection → Type 0 where
  collected_all : {seen : List NameText} → CollectsFrom schema fragments object seen [] []
  collect_next : {seen visited : List NameText} {set : SelectionSet} {sets : List SelectionSet} {within fields : List FieldSelection} →
      CollectsIn schema fragments object seen set within visited → CollectsFrom schema fragments object visited sets fields →
      CollectsFrom schema fragments object seen (set ∷ sets) (within ++ fields)

-- the field is collected from one of the sets, under this key
abbrev pub Collected : Schema → Fragments → NameText → List SelectionSet → NameText → FieldSelection → Type 0
Collected schema fragments object sets key x =
    Any (λ set. CollectedFrom schema fragments object set x) sets × SameName (response_key x.field.value.value) key

-- the set is gathered along a path of objects and keys: the operation's own set at first, then the
-- sets of the fields collected under each key
pub data Gathered (schema : Schema) (fragments : Fragments) (operation : Operation) : List (NameText × NameText) → SelectionSet → Type 0 where
  gathered_at_root : Gathered schema fragments operation [] operation.selection_set
  gathered_below : {path : List (NameText × NameText)} {set : SelectionSet} (object key : NameText) (x : FieldSelection) →
      Gathered schema fragments operation path set →
      CollectedFrom schema fragments object set x → SameName (response_key x.field.value.value) key →
      Gathered schema fragments operation (path ++ (object, key) ∷ []) (set_of x)
