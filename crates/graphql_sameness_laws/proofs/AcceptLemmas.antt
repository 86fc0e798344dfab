-- Values that are the same are accepted for the same types. Specification: 5.6 Values.
use Rattle.std.proofs.Common.{◌≡◌, ◌∙◌, ◌||◌, List, None, Some, refl, sym, ap, ap₂, subst, subst₂}
use Rattle.std.specs.Prelude.{◌≢◌, IsSome}
use Rattle.std.specs.List.{AllZip}
use Rattle.graphql_nodes.specs.Names.{NameText, SameName, same_name}
use Rattle.graphql_nodes.specs.declared.nodes.Node.{Node}
use Rattle.graphql_documents.specs.Definitions.{variable_named}
use Rattle.graphql_documents.specs.Schemas.{IsInputObject, type_definition}
use Rattle.graphql_documents.specs.TypeReferences.{as_written, inner_named_type, item_type}
use Rattle.graphql_documents.specs.Values.{entry_named}
use Rattle.graphql_documents.specs.declared.documents.components.Component.{Component}
use Rattle.graphql_documents.specs.declared.documents.definitions.InputValueDefinition.{InputValueDefinition}
use Rattle.graphql_documents.specs.declared.documents.definitions.VariableDefinition.{VariableDefinition}
use Rattle.graphql_documents.specs.declared.documents.schemas.ExtendedType.{ExtendedType}
use Rattle.graphql_documents.specs.declared.documents.schemas.ExtendedType.TheVariants.{Scalar, Object, Interface, Union, Enum, InputObject}
use Rattle.graphql_documents.specs.declared.documents.schemas.InputObjectType.{InputObjectType}
use Rattle.graphql_documents.specs.declared.documents.schemas.Schema.{Schema}
use Rattle.graphql_documents.specs.declared.documents.type_references.Type.{«Type»}
use Rattle.graphql_documents.specs.declared.documents.values.Value.{Value}
use Rattle.graphql_documents.specs.declared.documents.values.Value.TheVariants as literal
use Rattle.graphql_specification.specs.Values.{Accepts, HasNoNullEntry, IsFieldProvided, IsInputField, accepts_custom_object, accepts_leaf, accepts_list, accepts_null, accepts_object, accepts_undefined, accepts_variable}
use Rattle.graphql_document_building.specs.SameDocuments.{SameUnderName}
use Rattle.graphql_document_building.specs.SameLeaves.{SameContents, SameInputValue, SameValue, SameVariable}
use Rattle.graphql_building_laws.specs.SameSchemas.{SameComponent, SameInputObject, SameSchema, SameType}
use Rattle.graphql_sameness_laws.proofs.LeafLemmas.{input_value_back}
use Rattle.graphql_sameness_laws.proofs.LeafTypeLemmas.{both_custom, leaf_too}
use Rattle.graphql_sameness_laws.proofs.NamedLemmas.{both_required, entry_alike, variable_alike}
use Rattle.graphql_sameness_laws.proofs.SchemaLookupLemmas.{no_type_too, type_too}
use Rattle.graphql_sameness_laws.proofs.TypeKindLemmas.{both_input_type}
use Rattle.graphql_sameness_laws.proofs.TypeLemmas.{both_lists, one_item, one_name, one_null}
use Rattle.graphql_sameness_laws.proofs.ValueLemmas.{contents_back, list_too, null_too, object_too, value_back, variable_too}
use Rattle.graphql_sameness_laws.proofs.ZipLemmas.{other_side, some_alike, zip_all, zip_back, zip_contains, zip_lookup}

abbrev SameEntry : NameText × Node Value → NameText × Node Value → Type 0
SameEntry = SameUnderName SameValue

abbrev SameInputField : NameText × Component InputValueDefinition → NameText × Component InputValueDefinition → Type 0
SameInputField = SameUnderName (SameComponent SameInputValue)

pub entry_back : (x y : NameText × Node Value) → SameEntry x y → SameEntry y x
entry_back x y p = (sym p.0, value_back x.1 y.1 p.1)

pub input_field_back : (x y : NameText × Component InputValueDefinition) → SameInputField x y → SameInputField y x
input_field_back x y p = (sym p.0, (sym p.1.0, input_value_back x.1.node y.1.node p.1.1))

-- ==== input objects

pub as_same_input_object : (d : Node InputObjectType) (y : ExtendedType) → SameType (InputObject d) y →
    (e : Node InputObjectType) × (y ≡ InputObject e) × SameInputObject d e
as_same_input_object d (InputObject e) same = (e, refl, same)
as_same_input_object d (Scalar e) same = absurd same
as_same_input_object d (Object e) same = absurd same
as_same_input_object d (Interface e) same = absurd same
as_same_input_object d (Union e) same = absurd same
as_same_input_object d (Enum e) same = absurd same

pub input_object_too : (a b : Schema) → SameSchema a b → (name : NameText) (d : Node InputObjectType) → IsInputObject a name d →
    (e : Node InputObjectType) × IsInputObject b name e × SameInputObject d e
input_object_too a b same name d is =
    let found = type_too a b same name (InputObject d) is in
    let here = as_same_input_object d found.0 found.2 in
    (here.0, found.1 ∙ ap Some here.1, here.2)

input_field_too : (d e : Node InputObjectType) (name other : NameText) → SameInputObject d e → name ≡ other →
    IsInputField d.value.value name → IsInputField e.value.value other
input_field_too d e name other same is has =
    subst (IsInputField e.value.value) is
    (sym (some_alike (SameComponent SameInputValue) _ _ (zip_lookup (SameComponent SameInputValue) (same_name name) _ _ same.fields)) ∙ has)

-- ==== what is given for a field

module _ (xs ys : List (NameText × Node Value)) (zip : AllZip SameEntry xs ys) where
  no_null_too : (name other : NameText) → name ≡ other → HasNoNullEntry xs name → HasNoNullEntry ys other
  no_null_too name other is none =
      subst (HasNoNullEntry ys) is
      (zip_all SameEntry (λ x. SameName x.0 name → x.1.value.value ≢ literal.Null) (λ y. SameName y.0 name → y.1.value.value ≢ literal.Null)
      (λ x y p h named null. h (subst (λ n. SameName n name) (sym p.0) named) (null_too y.1.value.value x.1.value.value (contents_back p.1.contents) null))
      xs ys zip none)

  pub provided_too : (f g : NameText × Component InputValueDefinition) → SameInputField f g → IsFieldProvided xs f → IsFieldProvided ys g
  provided_too f g same given required =
      let here = given (both_required f.1.node g.1.node same.1.1 ∙ required) in
      (subst (λ n. IsSome (entry_named n ys)) same.0 (sym (some_alike SameValue _ _ (entry_alike f.0 xs ys zip)) ∙ here.0), no_null_too f.0 g.0 same.0 here.1)

  pub entry_too : (name other : NameText) (x : Node Value) → name ≡ other → entry_named name xs ≡ Some x →
      (y : Node Value) × (entry_named other ys ≡ Some y) × SameValue x y
  entry_too name other x is e =
      let found = other_side SameValue (entry_named name xs) (entry_named name ys) x (entry_alike name xs ys zip) e in
      (found.0, subst (λ n. entry_named n ys ≡ Some found.0) is found.1, found.2)

-- ==== acceptance

module _ (a b : Schema) (same : SameSchema a b) (variables others : List (Node VariableDefinition)) (alike : AllZip SameVariable variables others) where
  named_type_too : (ty other : «Type») (x : ExtendedType) → as_written ty ≡ as_written other → type_definition a (inner_named_type ty) ≡ Some x →
      (y : ExtendedType) × (type_definition b (inner_named_type other) ≡ Some y) × SameType x y
  named_type_too ty other x written e =
      let found = type_too a b same (inner_named_type ty) x e in
      (found.0, subst (λ n. type_definition b n ≡ Some found.0) (one_name ty other written) found.1, found.2)

  pub accepts_too : {ty : «Type»} {v : Value} → Accepts a variables ty v → (other : «Type») (w : Value) → as_written ty ≡ as_written other → SameContents v w →
      Accepts b others other w
  accepts_too (accepts_undefined {ty = ty} none) other w written contents =
      accepts_undefined (subst (λ n. type_definition b n ≡ None) (one_name ty other written) (no_type_too a b same (inner_named_type ty) none))
  accepts_too (accepts_null {ty = ty} nullable) other w written contents =
      subst (Accepts b others other) (sym (null_too literal.Null w contents refl)) (accepts_null (sym (one_null ty other written) ∙ nullable))
  accepts_too (accepts_variable {ty = ty} {name = name} {d = d} {v = x} defined input named is) other w written contents =
      let e = named_type_too ty other d written defined in
      let y = other_side SameVariable (variable_named name variables) (variable_named name others) x (variable_alike name variables others alike) named in
      subst (Accepts b others other) (sym (variable_too (literal.Variable name) w name contents refl))
      (accepts_variable e.1 (sym (both_input_type d e.0 e.2) ∙ input) y.1
      (subst₂ SameName (one_name x.value.value.ty.value.value y.0.value.value.ty.value.value y.2.ty.written) (one_name ty other written) is))
  accepts_too (accepts_leaf {ty = ty} {value = v} {d = d} defined leaf) other w written contents =
      let e = named_type_too ty other d written defined in
      accepts_leaf e.1 (leaf_too d e.0 e.2 contents leaf)
  accepts_too (accepts_list {ty = ty} {d = d} items defined lists input each) other w written contents =
      let e = named_type_too ty other d written defined in
      let here = list_too (literal.List items) w items contents refl in
      subst (Accepts b others other) (sym here.2)
      (accepts_list here.0 e.1 (sym (ap₂ ◌||◌ (both_lists ty other written) (both_custom d e.0 e.2)) ∙ lists) (sym (both_input_type d e.0 e.2) ∙ input)
      (λ item c.
      let x = zip_contains SameValue here.0.items items.items item (zip_back SameValue SameValue value_back items.items here.0.items here.1) c in
      accepts_too (each x.0 x.1) (item_type other) item.value.value (one_item ty other written) (contents_back x.2.contents)))
  accepts_too (accepts_custom_object {ty = ty} {d = d} entries defined custom) other w written contents =
      let e = named_type_too ty other d written defined in
      let here = object_too (literal.Object entries) w entries contents refl in
      subst (Accepts b others other) (sym here.2) (accepts_custom_object here.0 e.1 (sym (both_custom d e.0 e.2) ∙ custom))
  accepts_too (accepts_object {ty = ty} {d = d} entries defined known given each) other w written contents =
      let e = input_object_too a b same (inner_named_type ty) d defined in
      let here = object_too (literal.Object entries) w entries contents refl in
      let fields_back = zip_back SameInputField SameInputField input_field_back d.value.value.fields.entries e.0.value.value.fields.entries e.2.fields in
      let back = zip_back SameEntry SameEntry entry_back entries.items here.0.items here.1 in
      subst (Accepts b others other) (sym here.2)
      (accepts_object here.0 (subst (λ n. IsInputObject b n e.0) (one_name ty other written) e.1)
      (zip_all SameEntry (λ x. IsInputField d.value.value x.0) (λ y. IsInputField e.0.value.value y.0)
      (λ x y p h. input_field_too d e.0 x.0 y.0 e.2 p.0 h) entries.items here.0.items here.1 known)
      (zip_all SameInputField (IsFieldProvided entries.items) (IsFieldProvided here.0.items)
      (λ f g p h. provided_too entries.items here.0.items here.1 f g p h) d.value.value.fields.entries e.0.value.value.fields.entries e.2.fields given)
      (λ g y c found.
      let f = zip_contains SameInputField e.0.value.value.fields.entries d.value.value.fields.entries g fields_back c in
      let x = entry_too here.0.items entries.items back g.0 f.0.0 y f.2.0 found in
      accepts_too (each f.0 x.0 f.1 x.1) g.1.node.value.value.ty.value.value y.value.value
      (sym f.2.1.1.ty.written) (contents_back x.2.contents)))
