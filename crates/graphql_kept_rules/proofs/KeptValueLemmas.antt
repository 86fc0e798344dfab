-- What is accepted for a type is accepted for one that takes what it took. Specification: 5.6 Values.
use Rattle.std.proofs.Common.{◌≡◌, ◌∙◌, ◌||◌, ◌⊎◌, inl, inr, Bool, true, false, ℕ, List, Option, Some, refl, sym, ap, subst}
use Rattle.std.specs.Prelude.{◌≢◌, All, Any, Contains, IsSome, IsSomeAnd, IsTrue, is_some}
use Rattle.std.specs.List.{AllZip}
use Rattle.std.specs.Map.{lookup}
use Rattle.std.specs.Str.{bytes_eq}
use Rattle.std.proofs.lemmas.List.Elements.{All-contains}
use Rattle.std.proofs.lemmas.Map.Views.{lookup-from_Contains}
use Rattle.indexmap.specs.IndexMap.{get}
use Rattle.graphql_nodes.specs.Names.{NameText, SameName, same_name}
use Rattle.graphql_nodes.proofs.NameLemmas.{same_name_back, same_name_then, same_text}
use Rattle.graphql_nodes.specs.declared.nodes.Node.{Node}
use Rattle.graphql_documents.proofs.ListLemmas.{each_standing}
use Rattle.graphql_documents.specs.Definitions.{variable_named}
use Rattle.graphql_documents.specs.Schemas.{IsInputObject, is_required, type_definition}
use Rattle.graphql_documents.specs.TypeReferences.{inner_named_type, is_assignable, is_list, item_type}
use Rattle.graphql_documents.specs.Values.{entry_named}
use Rattle.graphql_documents.specs.declared.documents.components.Component.{Component}
use Rattle.graphql_documents.specs.declared.documents.definitions.InputValueDefinition.{InputValueDefinition}
use Rattle.graphql_documents.specs.declared.documents.definitions.VariableDefinition.{VariableDefinition}
use Rattle.graphql_documents.specs.declared.documents.schemas.ExtendedType.{ExtendedType}
use Rattle.graphql_documents.specs.declared.documents.schemas.ExtendedType.TheVariants.{InputObject}
use Rattle.graphql_documents.specs.declared.documents.schemas.InputObjectType.{InputObjectType}
use Rattle.graphql_documents.specs.declared.documents.schemas.Schema.{Schema}
use Rattle.graphql_documents.specs.declared.documents.type_references.Type.{«Type»}
use Rattle.graphql_documents.specs.declared.documents.type_references.Type.TheVariants.{Named, NonNullNamed, List', NonNullList'}
use Rattle.graphql_documents.specs.declared.documents.values.Value.{Value}
use Rattle.graphql_documents.specs.declared.documents.values.Value.TheVariants as literal
use Rattle.graphql_specification.specs.Values.{Accepts, HasNoNullEntry, IsFieldProvided, IsInputField, accepts_custom_object, accepts_leaf, accepts_list, accepts_null, accepts_object, accepts_undefined, accepts_variable, is_custom_scalar}
use Rattle.graphql_document_building.specs.SameDocuments.{SameUnderName}
use Rattle.graphql_document_building.specs.SameLeaves.{SameContents, SameValue, SameVariable}
use Rattle.graphql_schema_laws.specs.InputFields.{HasFieldsOfMap, InputObjectsHaveFieldsOfMaps}
use Rattle.graphql_sameness_laws.proofs.AcceptLemmas.{entry_back}
use Rattle.graphql_sameness_laws.proofs.NamedLemmas.{entry_alike, variable_alike}
use Rattle.graphql_sameness_laws.proofs.TypeLemmas as types
use Rattle.graphql_sameness_laws.proofs.ValueLemmas.{contents_back, list_too, null_too, object_too, value_back, variable_too}
use Rattle.graphql_sameness_laws.proofs.ZipLemmas.{other_side, some_alike, zip_all, zip_back, zip_contains}
use Rattle.graphql_schema_changes.specs.Keeps.{KeepsInput, KeepsInputFields, KeepsInputValue, KeepsValues}
use Rattle.graphql_kept_rules.proofs.AssignableLemmas.{assignable_items, both_lists, nullable_after, one_inner_name}
use Rattle.graphql_kept_rules.proofs.FoundLemmas.{entry_in, found_in, mapped_some, one_entry, one_lookup, one_some, same_name_equiv, some_and_found, some_found}
use Rattle.graphql_kept_rules.proofs.KeptLeafLemmas.{custom_after, input_after, leaf_after, object_after}
use Rattle.graphql_kept_rules.proofs.LeafContentLemmas.{leaf_of_same}
use Rattle.graphql_kept_rules.proofs.NameLemmas.{one_type}

abbrev InputField : Type 0
InputField = NameText × Component InputValueDefinition

abbrev Entry : Type 0
Entry = NameText × Node Value

pub inner_of_item : (ty : «Type») → inner_named_type (item_type ty) ≡ inner_named_type ty
inner_of_item (Named a) = refl
inner_of_item (NonNullNamed a) = refl
inner_of_item (List' x a) = refl
inner_of_item (NonNullList' x a) = refl

true_left : (a b c : Type 0) → (a → c) → (b → c) → a ⊎ b → c
true_left a b c f g h = elim h [ inl x ↦ f x | inr y ↦ g y ]

-- ==== entries under the name of a field

no_null_under : (xs : List Entry) (a b : NameText) → SameName a b → HasNoNullEntry xs a → HasNoNullEntry xs b
no_null_under xs a b same h =
    subst (λ (text : List ℕ). All (λ (entry : Entry). IsTrue (bytes_eq entry.0.text text) → entry.1.value.value ≢ literal.Null) xs) (same_text a b same) h

module _ (xs ys : List Entry) (zip : AllZip (SameUnderName SameValue) xs ys) where
  no_null_too : (name : NameText) → HasNoNullEntry xs name → HasNoNullEntry ys name
  no_null_too name none =
      zip_all (SameUnderName SameValue) (λ x. SameName x.0 name → x.1.value.value ≢ literal.Null) (λ y. SameName y.0 name → y.1.value.value ≢ literal.Null)
      (λ x y p h named null. h (subst (λ n. SameName n name) (sym p.0) named) (null_too y.1.value.value x.1.value.value (contents_back p.1.contents) null))
      xs ys zip none

  given_too : (a b : NameText) → SameName a b → IsSome (entry_named a xs) × HasNoNullEntry xs a → IsSome (entry_named b ys) × HasNoNullEntry ys b
  given_too a b same h = (
    subst (λ o. IsSome o) (one_entry ys a b same) (sym (some_alike SameValue _ _ (entry_alike a xs ys zip)) ∙ h.0),
    no_null_under ys a b same (no_null_too a h.1),
  )

-- ==== fields

-- a field that the old input object has under the name, and the new one under it
pub field_kept : (d e : Node InputObjectType) → KeepsInputFields d.value.value e.value.value → (f : InputField) → Contains d.value.value.fields.entries f →
    (b : Component InputValueDefinition) × (get same_name e.value.value.fields f.0 ≡ Some b) × KeepsInputValue f.1.node.value.value b.node.value.value
field_kept d e keeps f stands =
    some_and_found (get same_name e.value.value.fields f.0) (λ b. KeepsInputValue f.1.node.value.value b.node.value.value)
    (All-contains (λ a. IsSomeAnd (get same_name e.value.value.fields a.0) (λ b. KeepsInputValue a.1.node.value.value b.node.value.value))
    d.value.value.fields.entries f keeps.kept stands)

module _ (d e : Node InputObjectType) (keeps : KeepsInputFields d.value.value e.value.value) (unique : HasFieldsOfMap e.value.value) where
  field_before : (name : NameText) → IsInputField d.value.value name → (f : InputField) × Contains d.value.value.fields.entries f × SameName name f.0
  field_before name is =
      let found = some_found (lookup (same_name name) d.value.value.fields.entries) is in
      let here = entry_in (same_name name) d.value.value.fields.entries found.0 found.1 in
      ((here.0, found.0), here.1, here.2)

  input_field_after : (name : NameText) → IsInputField d.value.value name → IsInputField e.value.value name
  input_field_after name is =
      let f = field_before name is in
      let b = field_kept d e keeps f.0 f.1 in
      ap (λ (o : Option (Component InputValueDefinition)). is_some o) (one_lookup e.value.value.fields.entries name f.0.0 f.2 ∙ b.1)

  -- the old field of the name of a new one that an entry names
  matched : (g : InputField) → Contains e.value.value.fields.entries g → (name : NameText) → SameName name g.0 → IsInputField d.value.value name →
      (f : InputField) × Contains d.value.value.fields.entries f × SameName f.0 g.0 × KeepsInputValue f.1.node.value.value g.1.node.value.value
  matched g stands name named is =
      let f = field_before name is in
      let b = field_kept d e keeps f.0 f.1 in
      let same : SameName f.0.0 g.0 = same_name_then f.0.0 name g.0 (same_name_back name f.0.0 f.2) named in
      let here : get same_name e.value.value.fields g.0 ≡ Some g.1 = lookup-from_Contains same_name_equiv g.0 g.1 e.value.value.fields.entries unique.unique stands in
      let one : b.0 ≡ g.1 = one_some (get same_name e.value.value.fields f.0.0) b.0 g.1 b.1 (one_lookup e.value.value.fields.entries f.0.0 g.0 same ∙ here) in
      (f.0, f.1, same, subst (λ (c : Component InputValueDefinition). KeepsInputValue f.0.1.node.value.value c.node.value.value) one b.2)

  required_field_before : (g : InputField) → Contains e.value.value.fields.entries g → IsTrue (is_required g.1.node.value.value) →
      (f : InputField) × Contains d.value.value.fields.entries f × SameName f.0 g.0 × IsTrue (is_required f.1.node.value.value)
  required_field_before g stands required =
      let found = All-contains (λ b. IsTrue (is_required b.1.node.value.value) → Any (λ a. SameName a.0 b.0 × IsTrue (is_required a.1.node.value.value)) d.value.value.fields.entries)
      e.value.value.fields.entries g keeps.required stands required in
      (found.1, (found.0, found.2, found.3), found.4.0, found.4.1)

-- ==== acceptance

module _ (old new : Schema) (Input : NameText → Type 0) (inputs : (name : NameText) → Input name → KeepsInput old new name)
    (entries : (name : NameText) (d : Node InputObjectType) (field : InputField) → Input name → IsInputObject old name d → Contains d.value.value.fields.entries field →
    Input (inner_named_type field.1.node.value.value.ty.value.value))
    (unique : InputObjectsHaveFieldsOfMaps new) (variables others : List (Node VariableDefinition)) (alike : AllZip SameVariable variables others) where
  fields_of_map : (name : NameText) (e : Node InputObjectType) → IsInputObject new name e → HasFieldsOfMap e.value.value
  fields_of_map name e is =
      let here = entry_in (same_name name) new.types.entries (InputObject e) is in
      All-contains (λ entry. (d : Node InputObjectType) → entry.1 ≡ InputObject d → HasFieldsOfMap d.value.value) new.types.entries (here.0, InputObject e) unique here.1 e refl

  -- the type of the second is that which keeps the first's values
  kept : (ty other : «Type») → IsTrue (is_assignable ty other) → (i : KeepsInput old new (inner_named_type ty)) → type_definition new (inner_named_type other) ≡ Some i.after
  kept ty other fits i = sym (one_type new (inner_named_type ty) (inner_named_type other) (one_inner_name ty other fits)) ∙ i.is_defined

  values_of : (ty : «Type») (d : ExtendedType) → type_definition old (inner_named_type ty) ≡ Some d → (i : KeepsInput old new (inner_named_type ty)) → KeepsValues d i.after
  values_of ty d defined i = subst (λ x. KeepsValues x i.after) (one_some (type_definition old (inner_named_type ty)) i.before d i.was_defined defined) i.values

  pub accepts_still : {ty : «Type»} {v : Value} → Accepts old variables ty v → (other : «Type») (w : Value) → IsTrue (is_assignable ty other) → SameContents v w →
      Input (inner_named_type ty) → Accepts new others other w
  accepts_still (accepts_undefined {ty = ty} none) other w fits contents input =
      let i = inputs (inner_named_type ty) input in
      absurd (let is : type_definition old (inner_named_type ty) ≡ Some i.before = i.was_defined in let no : ⊥ = cc in no)
  accepts_still (accepts_null {ty = ty} null) other w fits contents input =
      subst (Accepts new others other) (sym (null_too literal.Null w contents refl)) (accepts_null (nullable_after ty other fits null))
  accepts_still (accepts_variable {ty = ty} {name = name} {d = d} {v = x} defined is_input named is) other w fits contents input =
      let i = inputs (inner_named_type ty) input in
      let y = other_side SameVariable (variable_named name variables) (variable_named name others) x (variable_alike name variables others alike) named in
      let name_of_y = types.one_name x.value.value.ty.value.value y.0.value.value.ty.value.value y.2.ty.written in
      subst (Accepts new others other) (sym (variable_too (literal.Variable name) w name contents refl))
      (accepts_variable (kept ty other fits i) (input_after i.values) y.1
      (subst (λ n. SameName n (inner_named_type other)) name_of_y
      (same_name_then (inner_named_type x.value.value.ty.value.value) (inner_named_type ty) (inner_named_type other) is (one_inner_name ty other fits))))
  accepts_still (accepts_leaf {ty = ty} {value = v} {d = d} defined leaf) other w fits contents input =
      let i = inputs (inner_named_type ty) input in
      accepts_leaf (kept ty other fits i) (leaf_after (values_of ty d defined i) w (leaf_of_same d contents leaf))
  accepts_still (accepts_list {ty = ty} {d = d} items defined lists is_input each) other w fits contents input =
      let i = inputs (inner_named_type ty) input in
      let here = list_too (literal.List items) w items contents refl in
      subst (Accepts new others other) (sym here.2)
      (accepts_list here.0 (kept ty other fits i) (lists_after (is_list ty) (is_list other) (is_custom_scalar d) (is_custom_scalar i.after) (both_lists ty other fits)
      (custom_after (values_of ty d defined i)) lists) (input_after i.values)
      (λ item c.
      let x = zip_contains SameValue here.0.items items.items item (zip_back SameValue SameValue value_back items.items here.0.items here.1) c in
      accepts_still (each x.0 x.1) (item_type other) item.value.value (assignable_items ty other fits) (contents_back x.2.contents)
      (subst Input (sym (inner_of_item ty)) input)))
    where
      lists_after : (a b x y : Bool) → a ≡ b → (IsTrue x → IsTrue y) → IsTrue (a || x) → IsTrue (b || y)
      lists_after true true x y e custom h = refl
      lists_after false false x y e custom h = custom h
      lists_after true false x y e custom h = absurd (let no : ⊥ = cc in no)
      lists_after false true x y e custom h = absurd (let no : ⊥ = cc in no)
  accepts_still (accepts_custom_object {ty = ty} {d = d} fields defined custom) other w fits contents input =
      let i = inputs (inner_named_type ty) input in
      let here = object_too (literal.Object fields) w fields contents refl in
      subst (Accepts new others other) (sym here.2) (accepts_custom_object here.0 (kept ty other fits i) (custom_after (values_of ty d defined i) custom))
  accepts_still (accepts_object {ty = ty} {d = d} given_entries defined known given each) other w fits contents input =
      let i = inputs (inner_named_type ty) input in
      let here = object_too (literal.Object given_entries) w given_entries contents refl in
      let back = zip_back (SameUnderName SameValue) (SameUnderName SameValue) entry_back given_entries.items here.0.items here.1 in
      subst (Accepts new others other) (sym here.2)
      (elim (object_after d i.after (values_of ty (InputObject d) defined i)) [
        | inl custom ↦ accepts_custom_object here.0 (kept ty other fits i) custom
        | inr is ↦
            let e = is.0 in
            let is_object : IsInputObject new (inner_named_type other) e = kept ty other fits i ∙ ap Some is.1 in
            let map_like = fields_of_map (inner_named_type other) e is_object in
            accepts_object here.0 is_object
            (zip_all (SameUnderName SameValue) (λ x. IsInputField d.value.value x.0) (λ y. IsInputField e.value.value y.0)
            (λ x y p h. subst (IsInputField e.value.value) p.0 (input_field_after d e is.2 map_like x.0 h)) given_entries.items here.0.items here.1 known)
            (each_standing (IsFieldProvided here.0.items) e.value.value.fields.entries (λ g stands required.
            let f = required_field_before d e is.2 map_like g stands required in
            given_too given_entries.items here.0.items here.1 f.0.0 g.0 f.2
            (All-contains (IsFieldProvided given_entries.items) d.value.value.fields.entries f.0 given f.1 f.3)))
            (λ g y stands found.
            let x = other_side SameValue (entry_named g.0 here.0.items) (entry_named g.0 given_entries.items) y (entry_alike g.0 here.0.items given_entries.items back) found in
            let named = mapped_some (λ (entry : Entry). entry.1) _ x.0 x.1 in
            let entry = found_in (λ (entry : Entry). same_name entry.0 g.0) given_entries.items named.0 named.1 in
            let f = matched d e is.2 map_like g stands named.0.0 entry.1
            (All-contains (λ entry. IsInputField d.value.value entry.0) given_entries.items named.0 known entry.0) in
            accepts_still (each f.0 x.0 f.1 (one_entry given_entries.items f.0.0 g.0 f.2 ∙ x.1)) g.1.node.value.value.ty.value.value y.value.value f.3.ty
            (contents_back x.2.contents) (entries (inner_named_type ty) d f.0 input defined f.1))
      ])
