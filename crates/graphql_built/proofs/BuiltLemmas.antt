-- A set is built, with the sets that are written in it, exactly where each of its selections is.
use Rattle.std.proofs.Common.{◌≡◌, ◌↔◌, Bool, false, IsTrue, List, ◌++◌, Ok, Some, refl, sym, ap, ◌∙◌, subst, All, Contains}
use Rattle.std.specs.Prelude.{Result}
use Rattle.std.proofs.lemmas.List.Elements.{All-append, All-contains, All-nil, All-weaker}
use Rattle.std.proofs.lemmas.Option.{same_Some}
use Rattle.graphql_built.specs.BuiltSelections.{FragmentIsBuilt, HasDefinitionOfType, HasSetOfOutputType, InlineFragmentIsBuilt, SelectionIsBuilt}
use Rattle.graphql_documents.proofs.ValueContentLemmas.{equality_of_field_definitions}
use Rattle.graphql_documents.proofs.ListLemmas.{All-append_left, All-append_right, each_standing}
use Rattle.graphql_documents.proofs.SelectionLemmas.{not_inline, not_spread, same_field, same_inline, spread_not_inline}
use Rattle.graphql_documents.specs.Built.{FieldIsBuilt, IsBuilt, OperationIsBuilt, SetsAreBuilt, StandsUnderOwnNames, TypeStandsUnderItsName}
use Rattle.graphql_documents.specs.Contents.{SameFieldDefinition}
use Rattle.graphql_documents.specs.contracts.documents.definitions.FieldDefinitionPartialEq.TheImpl as definition_impl
use Rattle.graphql_documents.specs.Executables.{operations_of}
use Rattle.graphql_nodes.specs.Names.{NameText, SameName}
use Rattle.graphql_documents.specs.Schemas.{NamesKind, is_output_type, type_definition, type_field}
use Rattle.graphql_documents.specs.Selections.{selections_of, set_itself, set_in_field, set_in_inline_fragment}
use Rattle.graphql_documents.specs.TypeReferences.{inner_named_type}
use Rattle.graphql_documents.specs.declared.documents.components.Component.{Component}
use Rattle.graphql_documents.specs.declared.documents.definitions.FieldDefinition.{FieldDefinition}
use Rattle.graphql_documents.specs.declared.documents.executables.ExecutableDocument.{ExecutableDocument}
use Rattle.graphql_documents.specs.declared.documents.executables.Field.{Field}
use Rattle.graphql_documents.specs.declared.documents.executables.Fragment.{Fragment}
use Rattle.graphql_documents.specs.declared.documents.executables.FragmentSpread.{FragmentSpread}
use Rattle.graphql_documents.specs.declared.documents.executables.InlineFragment.{InlineFragment}
use Rattle.graphql_documents.specs.declared.documents.executables.Selection.TheVariants as kind
use Rattle.graphql_documents.specs.declared.documents.executables.Selection.{Selection}
use Rattle.graphql_documents.specs.declared.documents.executables.SelectionSet.{SelectionSet}
use Rattle.graphql_nodes.specs.declared.nodes.Node.{Node}
use Rattle.graphql_documents.specs.declared.documents.schemas.EnumType.{EnumType}
use Rattle.graphql_documents.specs.declared.documents.schemas.ExtendedType.TheVariants.{Enum, InputObject, Interface, Object}
use Rattle.graphql_documents.specs.declared.documents.schemas.ExtendedType.{ExtendedType}
use Rattle.graphql_documents.specs.declared.documents.schemas.FieldLookupError.{FieldLookupError}
use Rattle.graphql_documents.specs.declared.documents.schemas.InputObjectType.{InputObjectType}
use Rattle.graphql_documents.specs.declared.documents.schemas.InterfaceType.{InterfaceType}
use Rattle.graphql_documents.specs.declared.documents.schemas.ObjectType.{ObjectType}
use Rattle.graphql_documents.specs.declared.documents.schemas.Schema.{Schema}

module _ (schema : Schema) (set : SelectionSet) where
  pub sets_built : All (SelectionIsBuilt schema set.ty) (selections_of set) → SetsAreBuilt schema set
  sets_built all inner set_itself = record {
    fields = λ f in'. ((All-contains (SelectionIsBuilt schema set.ty) (selections_of set) (kind.Field f) all in').field f refl).0;
    inline_fragments = λ i in'. ((All-contains (SelectionIsBuilt schema set.ty) (selections_of set) (kind.InlineFragment i) all in').inline_fragment i refl).0;
  }
  sets_built all inner (set_in_field {f = f} in' below) =
      ((All-contains (SelectionIsBuilt schema set.ty) (selections_of set) (kind.Field f) all in').field f refl).1 inner below
  sets_built all inner (set_in_inline_fragment {i = i} in' below) =
      ((All-contains (SelectionIsBuilt schema set.ty) (selections_of set) (kind.InlineFragment i) all in').inline_fragment i refl).1 inner below

  pub selections_built : SetsAreBuilt schema set → All (SelectionIsBuilt schema set.ty) (selections_of set)
  selections_built built =
      each_standing (SelectionIsBuilt schema set.ty) (selections_of set)
      (λ s in'. record {
        field = λ f is.
            let stands = subst (Contains (selections_of set)) is in' in
            ((built set set_itself).fields f stands, λ inner below. built inner (set_in_field stands below));
        inline_fragment = λ i is.
            let stands = subst (Contains (selections_of set)) is in' in
            ((built set set_itself).inline_fragments i stands, λ inner below. built inner (set_in_inline_fragment stands below));
      })

-- each kind of selection is built where what is asked of that kind holds
module _ (schema : Schema) (parent : NameText) (s : Selection) where
  pub field_selection : (f : Node Field) → s ≡ kind.Field f →
      (FieldIsBuilt schema parent f.value.value × SetsAreBuilt schema f.value.value.selection_set) ↔
      SelectionIsBuilt schema parent s
  field_selection f is = (
    λ h. record {
      field = λ g e.
          subst (λ (x : Node Field). FieldIsBuilt schema parent x.value.value × SetsAreBuilt schema x.value.value.selection_set)
          (same_field g f (sym is ∙ e)) h;
      inline_fragment = λ i e. absurd (not_inline f i (sym e ∙ is));
    },
    λ h. h.field f is,
  )

  -- the same of a field that was seen to be built
  pub field_part : (f : Node Field) (x y : Field) (r q : Bool) → s ≡ kind.Field f → x ≡ f.value.value → y ≡ f.value.value →
      IsTrue r → (IsTrue r ↔ FieldIsBuilt schema parent x) → (IsTrue q ↔ SetsAreBuilt schema y.selection_set) →
      IsTrue q ↔ SelectionIsBuilt schema parent s
  field_part f x y r q is x_is y_is built itself below =
      let here = subst (FieldIsBuilt schema parent) x_is (itself.0 built) in
      let sets = subst (λ (g : Field). IsTrue q ↔ SetsAreBuilt schema g.selection_set) y_is below in (
        λ e. (field_selection f is).0 (here, sets.0 e),
        λ h. sets.1 ((field_selection f is).1 h).1,
      )

  pub inline_selection : (i : Node InlineFragment) → s ≡ kind.InlineFragment i →
      (InlineFragmentIsBuilt parent i.value.value × SetsAreBuilt schema i.value.value.selection_set) ↔
      SelectionIsBuilt schema parent s
  inline_selection i is = (
    λ h. record {
      field = λ f e. absurd (not_inline f i (sym is ∙ e));
      inline_fragment = λ j e.
          subst (λ (x : Node InlineFragment). InlineFragmentIsBuilt parent x.value.value × SetsAreBuilt schema x.value.value.selection_set)
          (same_inline i j (sym is ∙ e)) h;
    },
    λ h. h.inline_fragment i is,
  )

  pub spread_selection : (p : Node FragmentSpread) → s ≡ kind.FragmentSpread p → SelectionIsBuilt schema parent s
  spread_selection p is = record {
    field = λ f e. absurd (not_spread f p (sym is ∙ e));
    inline_fragment = λ i e. absurd (spread_not_inline i p (sym is ∙ e));
  }

-- one that fails is enough for not all of a list to pass
pub one_fails : {X : Type 0} (P : X → Type 0) (xs : List X) (x : X) (r : Bool) → Contains xs x → (IsTrue r ↔ P x) → r ≡ false → IsTrue false ↔ All P xs
one_fails P xs x r stands passes fails = (
  λ (e : IsTrue false). absurd (let h : ⊥ = cc in h),
  λ all. sym fails ∙ passes.1 (All-contains P xs x all stands),
)

-- a selection of a set that is not built
pub one_not_built : (schema : Schema) (set : SelectionSet) (x : Selection) (r : Bool) → Contains (selections_of set) x →
    (IsTrue r ↔ SelectionIsBuilt schema set.ty x) → r ≡ false → IsTrue false ↔ SetsAreBuilt schema set
one_not_built schema set x r stands built fails =
    let none = one_fails (SelectionIsBuilt schema set.ty) (selections_of set) x r stands built fails in
    (λ e. sets_built schema set (none.0 e), λ h. none.1 (selections_built schema set h))

-- a definition under a name, as its kind
module _ (key : NameText) (t : ExtendedType) (r : Bool) where
  pub object_stands : (d : Node ObjectType) (o : ObjectType) → t ≡ Object d → o ≡ d.value.value → SameName key d.value.value.name →
      (IsTrue r ↔ All (λ entry. SameName entry.0 entry.1.node.value.value.name) o.fields.entries) → IsTrue r ↔ TypeStandsUnderItsName key t
  object_stands d o is o_is same h =
      let fields = subst (λ (x : ObjectType). IsTrue r ↔ All (λ entry. SameName entry.0 entry.1.node.value.value.name) x.fields.entries) o_is h in
      subst (λ (x : ExtendedType). IsTrue r ↔ TypeStandsUnderItsName key x) (sym is) (
        λ e. record {
          itself = same;
          fields = fields.0 e;
          input_fields = All-nil (λ entry. SameName entry.0 entry.1.node.value.value.name);
          enum_values = tt;
        },
        λ stands. fields.1 stands.fields,
      )

  pub interface_stands : (d : Node InterfaceType) (o : InterfaceType) → t ≡ Interface d → o ≡ d.value.value → SameName key d.value.value.name →
      (IsTrue r ↔ All (λ entry. SameName entry.0 entry.1.node.value.value.name) o.fields.entries) → IsTrue r ↔ TypeStandsUnderItsName key t
  interface_stands d o is o_is same h =
      let fields = subst (λ (x : InterfaceType). IsTrue r ↔ All (λ entry. SameName entry.0 entry.1.node.value.value.name) x.fields.entries) o_is h in
      subst (λ (x : ExtendedType). IsTrue r ↔ TypeStandsUnderItsName key x) (sym is) (
        λ e. record {
          itself = same;
          fields = fields.0 e;
          input_fields = All-nil (λ entry. SameName entry.0 entry.1.node.value.value.name);
          enum_values = tt;
        },
        λ stands. fields.1 stands.fields,
      )

  pub enum_stands : (d : Node EnumType) (o : EnumType) → t ≡ Enum d → o ≡ d.value.value → SameName key d.value.value.name →
      (IsTrue r ↔ All (λ entry. SameName entry.0 entry.1.node.value.value.value) o.values.entries) → IsTrue r ↔ TypeStandsUnderItsName key t
  enum_stands d o is o_is same h =
      let values = subst (λ (x : EnumType). IsTrue r ↔ All (λ entry. SameName entry.0 entry.1.node.value.value.value) x.values.entries) o_is h in
      subst (λ (x : ExtendedType). IsTrue r ↔ TypeStandsUnderItsName key x) (sym is) (
        λ e. record {
          itself = same;
          fields = All-nil (λ entry. SameName entry.0 entry.1.node.value.value.name);
          input_fields = All-nil (λ entry. SameName entry.0 entry.1.node.value.value.name);
          enum_values = values.0 e;
        },
        λ stands. values.1 stands.enum_values,
      )

  pub input_object_stands : (d : Node InputObjectType) (o : InputObjectType) → t ≡ InputObject d → o ≡ d.value.value → SameName key d.value.value.name →
      (IsTrue r ↔ All (λ entry. SameName entry.0 entry.1.node.value.value.name) o.fields.entries) → IsTrue r ↔ TypeStandsUnderItsName key t
  input_object_stands d o is o_is same h =
      let fields = subst (λ (x : InputObjectType). IsTrue r ↔ All (λ entry. SameName entry.0 entry.1.node.value.value.name) x.fields.entries) o_is h in
      subst (λ (x : ExtendedType). IsTrue r ↔ TypeStandsUnderItsName key x) (sym is) (
        λ e. record {
          itself = same;
          fields = All-nil (λ entry. SameName entry.0 entry.1.node.value.value.name);
          input_fields = fields.0 e;
          enum_values = tt;
        },
        λ stands. fields.1 stands.input_fields,
      )

-- a name of a type that is found
pub names_found : (schema : Schema) (name : NameText) (test : ExtendedType → Bool) (d : ExtendedType) (r : Bool) →
    type_definition schema name ≡ Some d → r ≡ test d → IsTrue r ↔ NamesKind schema test name
names_found schema name test d r found is = (
  λ e. (d, found, sym is ∙ e),
  λ names. is ∙ ap test (same_Some d names.0 (sym found ∙ names.1)) ∙ names.2,
)

-- the definition of a field
pub definition_found : (schema : Schema) (parent : NameText) (f : Field) (d : Component FieldDefinition) (r : Bool) →
    type_field schema parent f.name ≡ Ok d → r ≡ definition_impl.ghosts.eq f.definition.value.value d.node.value.value →
    IsTrue r ↔ HasDefinitionOfType schema parent f
definition_found schema parent f d r found is =
    let equality = equality_of_field_definitions f.definition.value.value d.node.value.value in (
      λ e. record { definition = d; is_of_parent = found; same = equality.0 (sym is ∙ e) },
      λ h.
          is ∙
          equality.1 (subst (λ (x : Component FieldDefinition). SameFieldDefinition f.definition.value.value x.node.value.value)
          (sym (same_one h.definition (sym found ∙ h.is_of_parent))) h.same),
    ) where
      same_one : (x : Component FieldDefinition) → ◌≡◌ {A = Result (Component FieldDefinition) FieldLookupError} (Ok d) (Ok x) → d ≡ x
      same_one x e = cc

-- the set of a field
pub set_found : (schema : Schema) (f : Field) (name : NameText) (r : Bool) → name ≡ inner_named_type f.definition.value.value.ty →
    SameName f.selection_set.ty (inner_named_type f.definition.value.value.ty) → (IsTrue r ↔ NamesKind schema is_output_type name) →
    IsTrue r ↔ HasSetOfOutputType schema f
set_found schema f name r is same kinds =
    let output = subst (λ n. IsTrue r ↔ NamesKind schema is_output_type n) is kinds in (
      λ e. record { set_type = same; output = output.0 e },
      λ h. output.1 h.output,
    )

-- a field with its definition, and one without
module _ (schema : Schema) (parent : NameText) (f : Field) where
  pub defined_field : (r : Bool) → HasDefinitionOfType schema parent f → (IsTrue r ↔ HasSetOfOutputType schema f) →
      IsTrue r ↔ FieldIsBuilt schema parent f
  defined_field r has sets = (
    λ e. let set = sets.0 e in
        record {
          definition = has.definition;
          is_of_parent = has.is_of_parent;
          same = has.same;
          output = set.output;
          set_type = set.set_type;
        },
    λ h. sets.1 (record { set_type = h.set_type; output = h.output }),
  )

  pub undefined_field : (r : Bool) → (IsTrue r ↔ HasDefinitionOfType schema parent f) → r ≡ false →
      IsTrue r ↔ FieldIsBuilt schema parent f
  undefined_field r has fails = (
    λ e. absurd (let h : ⊥ = cc in h),
    λ h. has.1 (record { definition = h.definition; is_of_parent = h.is_of_parent; same = h.same }),
  )

-- all of two lists, where all of the first are
pub all_of_both : {X : Type 0} (P : X → Type 0) (xs ys : List X) (r : Bool) → All P xs → (IsTrue r ↔ All P ys) → IsTrue r ↔ All P (xs ++ ys)
all_of_both P xs ys r all rest = (λ e. All-append P xs ys all (rest.0 e), λ both. rest.1 (All-append_right P xs ys both))

pub not_all_of_first : {X : Type 0} (P : X → Type 0) (xs ys : List X) (r : Bool) → (IsTrue r ↔ All P xs) → r ≡ false → IsTrue r ↔ All P (xs ++ ys)
not_all_of_first P xs ys r all fails = (λ e. absurd (let h : ⊥ = cc in h), λ both. all.1 (All-append_left P xs ys both))

-- fragments under their names, as the definition of built documents has them
pub fragments_built : (schema : Schema) (entries : List (NameText × Node Fragment)) →
    All (λ entry. FragmentIsBuilt schema entry.0 entry.1.value.value) entries ↔
    All (λ entry. SameName entry.0 entry.1.value.value.name × SetsAreBuilt schema entry.1.value.value.selection_set) entries
fragments_built schema entries = (
  All-weaker (λ entry. FragmentIsBuilt schema entry.0 entry.1.value.value)
      (λ entry. SameName entry.0 entry.1.value.value.name × SetsAreBuilt schema entry.1.value.value.selection_set)
      (λ entry h. (h.itself, h.sets)) entries,
  All-weaker (λ entry. SameName entry.0 entry.1.value.value.name × SetsAreBuilt schema entry.1.value.value.selection_set)
      (λ entry. FragmentIsBuilt schema entry.0 entry.1.value.value)
      (λ entry h. record { itself = h.0; sets = h.1 }) entries,
)

-- the parts of a document
pub document_built : (schema : Schema) (document : ExecutableDocument) (r : Bool) → StandsUnderOwnNames schema →
    All (λ o. OperationIsBuilt schema o.value.value) (operations_of document) →
    (IsTrue r ↔ All (λ entry. FragmentIsBuilt schema entry.0 entry.1.value.value) document.fragments.entries) →
    IsTrue r ↔ IsBuilt schema document
document_built schema document r names operations fragments =
    let words = fragments_built schema document.fragments.entries in (
      λ e. record { names = names; operations = operations; fragments = words.0 (fragments.0 e) },
      λ built. fragments.1 (words.1 built.fragments),
    )
