-- The steps of the walk over a value, for the contracts of its private functions.
use Rattle.std.specs.Prelude.{◌≡◌, ◌||◌, Bool, true, false, List, Option, Some, Contains, Vec, Result, codes}
use Rattle.std.specs.declared.alloc.Global.{Global}
use Rattle.graphql_diagnostics.specs.Diagnostics.{IsDiagnostic}
use Rattle.graphql_specification.specs.Values.{Accepts, IsFieldProvided, is_built_in_scalar, is_custom_scalar, ValueReport}
use Rattle.graphql_nodes.specs.Names.{NameText}
use Rattle.graphql_diagnostics.specs.Reports.{Checks}
use Rattle.graphql_documents.specs.Schemas.{type_definition}
use Rattle.graphql_documents.specs.TypeReferences.{TypeReference, inner_named_type, reference_of}
use Rattle.graphql_documents.specs.Values.{entry_named}
use Rattle.graphql_diagnostics.specs.declared.data.DiagnosticData.{DiagnosticData}
use Rattle.graphql_diagnostics.specs.declared.lists.DiagnosticList.{DiagnosticList}
use Rattle.graphql_documents.specs.declared.documents.components.Component.{Component}
use Rattle.graphql_documents.specs.declared.documents.definitions.InputValueDefinition.{InputValueDefinition}
use Rattle.graphql_documents.specs.declared.documents.definitions.VariableDefinition.{VariableDefinition}
use Rattle.graphql_nodes.specs.declared.nodes.Node.{Node}
use Rattle.graphql_documents.specs.declared.documents.schemas.ExtendedType.{ExtendedType}
use Rattle.graphql_documents.specs.declared.documents.schemas.Schema.{Schema}
use Rattle.graphql_nodes.specs.declared.spans.SourceSpan.{SourceSpan}
use Rattle.graphql_documents.specs.declared.documents.type_references.Type.{«Type»}
use Rattle.graphql_documents.specs.declared.documents.values.Value.TheVariants as literal
use Rattle.graphql_documents.specs.declared.documents.values.Value.{Value}

-- a type that is written there
abbrev pub written_at : «Type» → Option SourceSpan → TypeReference
written_at ty location = record { ty = ty; location = location }

-- a call that checks a value against a type
abbrev pub ChecksValue : {T E : Type 0} → Result T E → Schema → List (Node VariableDefinition) → TypeReference → Node Value → DiagnosticList → DiagnosticList → Type 0
ChecksValue result schema variables ty value old new =
    Checks result (Accepts schema variables ty.ty value.value.value) (IsDiagnostic (ValueReport schema variables ty value)) old new

-- the same, wherever the type has this definition
abbrev pub ChecksDefined : {T E : Type 0} → Result T E → ExtendedType → TypeReference → Node Value → DiagnosticList → DiagnosticList → Type 0
ChecksDefined result definition ty value old new =
    (schema : Schema) (variables : List (Node VariableDefinition)) →
    type_definition schema (inner_named_type ty.ty) ≡ Some definition →
    ChecksValue result schema variables ty value old new

-- the value is a list of these items
pub record HasItems (value : Value) (given : List (Node Value)) : Type 0 where
  pub items : Vec (Node Value) Global
  pub is_list : value ≡ literal.List items
  pub given_is : given ≡ items.items

-- the item is accepted for the type of the items
abbrev pub AcceptsItem : Schema → List (Node VariableDefinition) → «Type» → Node Value → Type 0
AcceptsItem schema variables item_type item = Accepts schema variables item_type item.value.value

-- the diagnostic names what is wrong with one of the items
pub record ItemReport (schema : Schema) (variables : List (Node VariableDefinition)) (item_type : TypeReference) (items : List (Node Value)) (r : DiagnosticData) (at : Option SourceSpan) : Type 0 where
  pub item : Node Value
  pub stands : Contains items item
  pub says : ValueReport schema variables item_type item r at

-- the value is an object of these entries
pub record HasEntries (value : Value) (given : List (NameText × Node Value)) : Type 0 where
  pub entries : Vec (NameText × Node Value) Global
  pub is_object : value ≡ literal.Object entries
  pub given_is : given ≡ entries.items

-- the first entry under the name of the field, if there is one, is accepted for the type of the field
abbrev pub AcceptsEntry : Schema → List (Node VariableDefinition) → List (NameText × Node Value) → NameText × Component InputValueDefinition → Type 0
AcceptsEntry schema variables entries field =
    (value : Node Value) → entry_named field.0 entries ≡ Some value →
    Accepts schema variables field.1.node.value.value.ty.value.value value.value.value

-- the diagnostic names what is wrong with the first entry under the name of the field
pub record EntryReport (schema : Schema) (variables : List (Node VariableDefinition)) (entries : List (NameText × Node Value)) (field : NameText × Component InputValueDefinition) (r : DiagnosticData) (at : Option SourceSpan) : Type 0 where
  pub value : Node Value
  pub is_first : entry_named field.0 entries ≡ Some value
  pub says : ValueReport schema variables (reference_of field.1.node.value.value.ty) value r at

-- the field is given if it is required, and its first entry is accepted
abbrev pub AcceptsField : Schema → List (Node VariableDefinition) → List (NameText × Node Value) → NameText × Component InputValueDefinition → Type 0
AcceptsField schema variables entries field = IsFieldProvided entries field × AcceptsEntry schema variables entries field

-- a string, a float or a boolean
abbrev pub is_other_scalar : Value → Bool
is_other_scalar (literal.String text) = true
is_other_scalar (literal.Float number) = true
is_other_scalar (literal.Boolean truth) = true
is_other_scalar _ = false

-- a scalar that takes it
abbrev pub takes_other_scalar : ExtendedType → Value → Bool
takes_other_scalar d (literal.String text) = is_custom_scalar d || is_built_in_scalar (codes "String") d || is_built_in_scalar (codes "ID") d
takes_other_scalar d (literal.Float number) = is_custom_scalar d || is_built_in_scalar (codes "Float") d
takes_other_scalar d (literal.Boolean truth) = is_custom_scalar d || is_built_in_scalar (codes "Boolean") d
takes_other_scalar d _ = false

-- a scalar that takes each integer
abbrev pub takes_every_int : ExtendedType → Bool
takes_every_int d = is_custom_scalar d || is_built_in_scalar (codes "ID") d || is_built_in_scalar (codes "Float") d
