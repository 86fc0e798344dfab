-- When a value is accepted for a type, and what a diagnostic says where it is not. Specification: 5.6 Values, 3 Input Coercion.
use Rattle.std.specs.Prelude.{Bool, false, not, ℕ, List, cond, IsSome, ◌⊎◌, ◌||◌, codes, IsTrue, ◌≢◌, All, ◌≡◌, None, Some, Vec, Contains, IsFalse, [], true, IsNone, Option, ◌∷◌, ◌++◌, string_bytes}
use Rattle.std.specs.Str.{bytes_eq}
use Rattle.std.specs.declared.alloc.Global.{Global}
use Rattle.indexmap.specs.IndexMap.{get}
use Rattle.graphql_documents.specs.Schemas.{is_built_in, is_required, type_definition, is_input_type, IsInputObject, as_input_object}
use Rattle.graphql_nodes.specs.Names.{NameText, same_name, SameName}
use Rattle.graphql_numbers.specs.Numbers.{FitsInt, integer_value}
use Rattle.graphql_documents.specs.Values.{entry_named, VariablesIn}
use Rattle.graphql_documents.specs.TypeReferences.{inner_named_type, item_type, is_list, is_non_null, TypeReference, item_reference, reference_of, IsReferenceCopy}
use Rattle.graphql_documents.specs.Definitions.{variable_named}
use Rattle.graphql_specification.specs.DirectiveCycles.{named}
use Rattle.graphql_nodes.specs.Nodes.{SameNode}
use Rattle.graphql_documents.specs.declared.documents.schemas.ExtendedType.{ExtendedType}
use Rattle.graphql_documents.specs.declared.documents.schemas.ExtendedType.TheVariants.{Scalar, Enum}
use Rattle.graphql_documents.specs.declared.documents.values.Value.{Value}
use Rattle.graphql_documents.specs.declared.documents.schemas.InputObjectType.{InputObjectType}
use Rattle.graphql_nodes.specs.declared.nodes.Node.{Node}
use Rattle.graphql_documents.specs.declared.documents.components.Component.{Component}
use Rattle.graphql_documents.specs.declared.documents.definitions.InputValueDefinition.{InputValueDefinition}
use Rattle.graphql_documents.specs.declared.documents.type_references.Type.{«Type»}
use Rattle.graphql_documents.specs.declared.documents.definitions.VariableDefinition.{VariableDefinition}
use Rattle.graphql_documents.specs.declared.documents.schemas.Schema.{Schema}
use Rattle.graphql_nodes.specs.declared.spans.SourceSpan.{SourceSpan}
use Rattle.graphql_documents.specs.declared.documents.schemas.EnumType.{EnumType}
use Rattle.graphql_coordinates.specs.declared.coordinates.TypeAttributeCoordinate.{TypeAttributeCoordinate}
use Rattle.graphql_diagnostics.specs.declared.data.DiagnosticData.{DiagnosticData}
use Rattle.graphql_documents.specs.declared.documents.values.Value.TheVariants as literal
use Rattle.graphql_documents.specs.declared.documents.schemas.ExtendedType.TheVariants as types
use Rattle.graphql_diagnostics.specs.declared.data.DiagnosticData.TheVariants as report

-- a scalar that is not one of those that every schema has. Specification: 3.5 Scalars, Custom Scalars
abbrev pub is_custom_scalar : ExtendedType → Bool
is_custom_scalar (Scalar d) = not (is_built_in (Scalar d))
is_custom_scalar _ = false

-- the scalar of this name that every schema has. Specification: 3.5 Scalars, Built-in Scalars
abbrev pub is_built_in_scalar : List ℕ → ExtendedType → Bool
is_built_in_scalar name (Scalar d) = cond (is_built_in (Scalar d)) (bytes_eq d.value.value.name.text name) false
is_built_in_scalar name _ = false

-- the enum type has this value. Specification: 3.9 Enums
abbrev pub HasEnumValue : ExtendedType → NameText → Type 0
HasEnumValue (Enum d) name = IsSome (get same_name d.value.value.values name)
HasEnumValue _ name = ⊥

-- a number, text, truth value or enum value is accepted for a leaf type
abbrev pub AcceptsLeaf : ExtendedType → Value → Type 0
AcceptsLeaf d (literal.Enum name) = IsTrue (is_custom_scalar d) ⊎ HasEnumValue d name
AcceptsLeaf d (literal.String text) =
    IsTrue (is_custom_scalar d || is_built_in_scalar (codes "String") d || is_built_in_scalar (codes "ID") d)
AcceptsLeaf d (literal.Float text) = IsTrue (is_custom_scalar d || is_built_in_scalar (codes "Float") d)
AcceptsLeaf d (literal.Int text) =
    IsTrue (is_custom_scalar d || is_built_in_scalar (codes "ID") d || is_built_in_scalar (codes "Float") d) ⊎
    (IsTrue (is_built_in_scalar (codes "Int") d) × FitsInt (integer_value text))
AcceptsLeaf d (literal.Boolean b) = IsTrue (is_custom_scalar d || is_built_in_scalar (codes "Boolean") d)
AcceptsLeaf d _ = ⊥

-- a field of this name is defined
abbrev pub IsInputField : InputObjectType → NameText → Type 0
IsInputField d name = IsSome (get same_name d.fields name)

-- no entry under the name is null
abbrev pub HasNoNullEntry : List (NameText × Node Value) → NameText → Type 0
HasNoNullEntry entries name = All (λ entry. SameName entry.0 name → entry.1.value.value ≢ literal.Null) entries

-- a field that is required is there, and no entry under its name is null
abbrev pub IsFieldProvided : List (NameText × Node Value) → NameText × Component InputValueDefinition → Type 0
IsFieldProvided entries field =
    IsTrue (is_required field.1.node.value.value) →
    IsSome (entry_named field.0 entries) × HasNoNullEntry entries field.0

-- the value is accepted for the type
pub data Accepts (schema : Schema) (variables : List (Node VariableDefinition)) : «Type» → Value → Type 0 where
  -- nothing is said of a type that is not defined
  accepts_undefined : {ty : «Type»} {value : Value} →
      type_definition schema (inner_named_type ty) ≡ None →
      Accepts schema variables ty value
  accepts_null : {ty : «Type»} →
      IsFalse (is_non_null ty) →
      Accepts schema variables ty literal.Null
  accepts_variable : {ty : «Type»} {name : NameText} {d : ExtendedType} {v : Node VariableDefinition} →
      type_definition schema (inner_named_type ty) ≡ Some d →
      IsTrue (is_input_type d) →
      variable_named name variables ≡ Some v →
      SameName (inner_named_type v.value.value.ty.value.value) (inner_named_type ty) →
      Accepts schema variables ty (literal.Variable name)
  accepts_leaf : {ty : «Type»} {value : Value} {d : ExtendedType} →
      type_definition schema (inner_named_type ty) ≡ Some d →
      AcceptsLeaf d value →
      Accepts schema variables ty value
  accepts_list : {ty : «Type»} {d : ExtendedType} (items : Vec (Node Value) Global) →
      type_definition schema (inner_named_type ty) ≡ Some d →
      IsTrue (is_list ty || is_custom_scalar d) →
      IsTrue (is_input_type d) →
      ((item : Node Value) → Contains items.items item → Accepts schema variables (item_type ty) item.value.value) →
      Accepts schema variables ty (literal.List items)
  accepts_custom_object : {ty : «Type»} {d : ExtendedType} (entries : Vec (NameText × Node Value) Global) →
      type_definition schema (inner_named_type ty) ≡ Some d →
      IsTrue (is_custom_scalar d) →
      Accepts schema variables ty (literal.Object entries)
  accepts_object : {ty : «Type»} {d : Node InputObjectType} (entries : Vec (NameText × Node Value) Global) →
      IsInputObject schema (inner_named_type ty) d →
      All (λ entry. IsInputField d.value.value entry.0) entries.items →
      All (IsFieldProvided entries.items) d.value.value.fields.entries →
      ((field : NameText × Component InputValueDefinition) (value : Node Value) →
      Contains d.value.value.fields.entries field → entry_named field.0 entries.items ≡ Some value →
      Accepts schema variables field.1.node.value.value.ty.value.value value.value.value) →
      Accepts schema variables ty (literal.Object entries)

-- a value of the type can be written down: one without variables that is accepted
abbrev pub HasFiniteValue : Schema → «Type» → Type 0
HasFiniteValue schema ty = (value : Value) × VariablesIn value [] × Accepts schema [] ty value

-- an enum value, text, number or truth value
abbrev pub is_leaf_literal : Value → Bool
is_leaf_literal (literal.Enum name) = true
is_leaf_literal (literal.String text) = true
is_leaf_literal (literal.Float number) = true
is_leaf_literal (literal.Int number) = true
is_leaf_literal (literal.Boolean truth) = true
is_leaf_literal _ = false

-- an integer that Int does not hold
abbrev pub IsOutOfRange : ExtendedType → Value → Type 0
IsOutOfRange d (literal.Int number) = IsTrue (is_built_in_scalar (codes "Int") d) × ¬ FitsInt (integer_value number)
IsOutOfRange d _ = ⊥

-- an enum value that the enum lacks
abbrev pub IsUnknownEnumValue : ExtendedType → Value → Type 0
IsUnknownEnumValue (types.Enum d) (literal.Enum name) = IsNone (get same_name d.value.value.values name)
IsUnknownEnumValue _ _ = ⊥

-- lists stand for the type, if their items do
abbrev pub TakesLists : «Type» → ExtendedType → Type 0
TakesLists ty d = IsTrue (is_list ty || is_custom_scalar d) × IsTrue (is_input_type d)

-- a value lies in another, which must be accepted for a type: it must be accepted for this type itself
pub data LiesWithin (schema : Schema) : TypeReference → Node Value → TypeReference → Node Value → Type 0 where
  within_itself : {ty : TypeReference} {value : Node Value} → LiesWithin schema ty value ty value
  within_item : {ty inner_ty : TypeReference} {value item inner : Node Value} {d : ExtendedType} (items : Vec (Node Value) Global) →
      type_definition schema (inner_named_type ty.ty) ≡ Some d → TakesLists ty.ty d →
      value.value.value ≡ literal.List items → Contains items.items item →
      LiesWithin schema (item_reference ty) item inner_ty inner → LiesWithin schema ty value inner_ty inner
  within_entry : {ty inner_ty : TypeReference} {value entry inner : Node Value} {d : Node InputObjectType}
      (entries : Vec (NameText × Node Value) Global) (field : NameText × Component InputValueDefinition) →
      IsInputObject schema (inner_named_type ty.ty) d → value.value.value ≡ literal.Object entries →
      Contains d.value.value.fields.entries field → entry_named field.0 entries.items ≡ Some entry →
      LiesWithin schema (reference_of field.1.node.value.value.ty) entry inner_ty inner → LiesWithin schema ty value inner_ty inner

-- the value cannot stand for the type, whatever its items and entries; the diagnostic names the second
-- type: that of the items, where a list would stand for a list of no input type
pub data CannotStandFor (variables : List (Node VariableDefinition)) (ty : «Type») (d : ExtendedType) : Value → «Type» → Type 0 where
  null_for_non_null : IsTrue (is_non_null ty) → CannotStandFor variables ty d literal.Null ty
  variable_of_other_type : {name : NameText} {v : Node VariableDefinition} →
      variable_named name variables ≡ Some v →
      ¬ (IsTrue (is_input_type d) × SameName (inner_named_type v.value.value.ty.value.value) (inner_named_type ty)) →
      CannotStandFor variables ty d (literal.Variable name) ty
  leaf_of_other_type : {value : Value} →
      IsTrue (is_leaf_literal value) → ¬ AcceptsLeaf d value → ¬ IsOutOfRange d value → ¬ IsUnknownEnumValue d value →
      CannotStandFor variables ty d value ty
  list_for_no_list : (items : Vec (Node Value) Global) →
      IsFalse (is_list ty || is_custom_scalar d) → CannotStandFor variables ty d (literal.List items) ty
  list_of_no_input : (items : Vec (Node Value) Global) →
      IsTrue (is_list ty) → IsFalse (is_input_type d) → CannotStandFor variables ty d (literal.List items) (item_type ty)
  object_for_no_object : (entries : Vec (NameText × Node Value) Global) →
      IsFalse (is_custom_scalar d) → as_input_object d ≡ None → CannotStandFor variables ty d (literal.Object entries) ty

-- the value cannot stand for the type: reported at the value, with the type as it is written, and where
pub record HasUnsupportedType (schema : Schema) (variables : List (Node VariableDefinition)) (ty : TypeReference) (value : Node Value) (reported : Node Value) (named : Node «Type») (definition_location at : Option SourceSpan) : Type 0 where
  pub definition : ExtendedType
  pub as_type : «Type»
  pub defined : type_definition schema (inner_named_type ty.ty) ≡ Some definition
  pub cannot : CannotStandFor variables ty.ty definition value.value.value as_type
  pub value_is : SameNode value reported
  pub type_is : IsReferenceCopy (record { ty = as_type; location = ty.location }) named
  pub definition_location_is : definition_location ≡ ty.location
  pub at_is : at ≡ value.location

-- an integer is too large or too small for Int: reported at the value, with its text
pub record IsNoInt (schema : Schema) (ty : «Type») (value : Node Value) (text : List ℕ) (at : Option SourceSpan) : Type 0 where
  pub definition : ExtendedType
  pub defined : type_definition schema (inner_named_type ty) ≡ Some definition
  pub is_integer : value.value.value ≡ literal.Int text
  pub out_of_range : IsOutOfRange definition (literal.Int text)
  pub at_is : at ≡ value.location

-- an enum lacks a value: reported at the value's name, with the enum
pub record IsNoEnumValue (schema : Schema) (ty : «Type») (value : Node Value) (name definition_name : NameText) (definition_location at : Option SourceSpan) : Type 0 where
  pub definition : Node EnumType
  pub defined : type_definition schema (inner_named_type ty) ≡ Some (types.Enum definition)
  pub is_enum_value : value.value.value ≡ literal.Enum name
  pub unknown : IsUnknownEnumValue (types.Enum definition) (literal.Enum name)
  pub definition_name_is : definition_name ≡ definition.value.value.name
  pub definition_location_is : definition_location ≡ definition.location
  pub at_is : at ≡ name.location

-- an input object lacks the field of an entry, the first such: reported at the entry's value, with the
-- input object
pub record HasUnknownEntry (schema : Schema) (ty : «Type») (value : Node Value) (name definition_name : NameText) (definition_location at : Option SourceSpan) : Type 0 where
  pub definition : Node InputObjectType
  pub entries : Vec (NameText × Node Value) Global
  pub before : List (NameText × Node Value)
  pub entry : Node Value
  pub after : List (NameText × Node Value)
  pub defined : IsInputObject schema (inner_named_type ty) definition
  pub is_object : value.value.value ≡ literal.Object entries
  pub split : entries.items ≡ before ++ (name, entry) ∷ after
  pub known_before : All (λ e. IsInputField definition.value.value e.0) before
  pub unknown : ¬ IsInputField definition.value.value name
  pub definition_name_is : definition_name ≡ definition.value.value.name
  pub definition_location_is : definition_location ≡ definition.location
  pub at_is : at ≡ entry.location

-- an input object value lacks a required field, or holds null for it: reported at the value, with the
-- field's definition
pub record MissesField (schema : Schema) (ty : «Type») (value : Node Value) (name : NameText) (coordinate : TypeAttributeCoordinate) (expected : Node «Type») (definition_location at : Option SourceSpan) : Type 0 where
  pub definition : Node InputObjectType
  pub field : NameText × Component InputValueDefinition
  pub entries : Vec (NameText × Node Value) Global
  pub defined : IsInputObject schema (inner_named_type ty) definition
  pub is_object : value.value.value ≡ literal.Object entries
  pub is_field : Contains definition.value.value.fields.entries field
  pub missing : ¬ IsFieldProvided entries.items field
  pub name_is : name ≡ field.0
  pub coordinate_is : coordinate ≡ record { ty = definition.value.value.name; attribute = field.0 }
  pub expected_is : SameNode field.1.node.value.value.ty expected
  pub definition_location_is : definition_location ≡ field.1.node.location
  pub at_is : at ≡ value.location

-- a variable is not defined: reported at the value
pub record IsNoVariable (schema : Schema) (variables : List (Node VariableDefinition)) (ty : «Type») (value : Node Value) (name : NameText) (at : Option SourceSpan) : Type 0 where
  pub definition : ExtendedType
  pub defined : type_definition schema (inner_named_type ty) ≡ Some definition
  pub is_variable : value.value.value ≡ literal.Variable name
  pub undefined : variable_named name variables ≡ None
  pub at_is : at ≡ value.location

-- the diagnostic names what is wrong with the value itself
abbrev pub ValueItselfReport : Schema → List (Node VariableDefinition) → TypeReference → Node Value → DiagnosticData → Option SourceSpan → Type 0
ValueItselfReport schema variables ty value (report.UnsupportedValueType reported named definition_location) at =
    HasUnsupportedType schema variables ty value reported named definition_location at
ValueItselfReport schema variables ty value (report.IntCoercionError text) at = IsNoInt schema ty.ty value (string_bytes text) at
ValueItselfReport schema variables ty value (report.UndefinedEnumValue name definition definition_location) at =
    IsNoEnumValue schema ty.ty value name definition definition_location at
ValueItselfReport schema variables ty value (report.UndefinedInputValue name definition definition_location) at =
    HasUnknownEntry schema ty.ty value name definition definition_location at
ValueItselfReport schema variables ty value (report.RequiredField name coordinate expected definition_location) at =
    MissesField schema ty.ty value name coordinate expected definition_location at
ValueItselfReport schema variables ty value (report.UndefinedVariable name) at = IsNoVariable schema variables ty.ty value name at
ValueItselfReport schema variables ty value _ at = ⊥

-- the diagnostic names what is wrong with a value that is this one or lies in it
pub record ValueReport (schema : Schema) (variables : List (Node VariableDefinition)) (ty : TypeReference) (value : Node Value) (r : DiagnosticData) (at : Option SourceSpan) : Type 0 where
  pub inner_ty : TypeReference
  pub inner : Node Value
  pub lies : LiesWithin schema ty value inner_ty inner
  pub broken : ValueItselfReport schema variables inner_ty inner r at
