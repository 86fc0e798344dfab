-- When a type holds, by its kind, and what a diagnostic says of one. Specification: 3.5 Scalars to 3.10 Input Objects.
use Rattle.std.specs.Prelude.{◌⊎◌, IsTrue, ◌≢◌, [], All, ◌≡◌, List, Option, Bool, false, true, ℕ, Some, codes, None, IsFalse, Vec, Contains}
use Rattle.std.specs.Borrow.{Bor}
use Rattle.std.specs.declared.alloc.Global.{Global}
use Rattle.graphql_documents.specs.Schemas.{is_built_in, NamesKind, is_object_type, location_of, own_name, fields_of, input_fields_of, type_definition, kind_text}
use Rattle.graphql_documents.specs.Directives.{directives_of_type}
use Rattle.graphql_specification.specs.InputObjectCycles.{InputObjectHasNoCycle, InputObjectCycleReport, InputObjectNestsTooDeep}
use Rattle.graphql_specification.specs.Implementations.{ImplementationsHold, DoesNotListItself, ImplementationReport}
use Rattle.graphql_nodes.specs.Names.{IsFreeName, NameText, SameName}
use Rattle.graphql_documents.specs.Extensions.{extension_locations}
use Rattle.graphql_specification.specs.Directives.{DirectivesReport}
use Rattle.graphql_specification.specs.InputValueDefinitions.{IsReserved, InputValueReport, IsOfOtherKind, DirectivesHoldAt, InputValueDefinitionHolds}
use Rattle.graphql_specification.specs.FieldDefinitions.{FieldDefinitionReport, FieldTypeReport, FieldDefinitionsHold}
use Rattle.graphql_nodes.specs.declared.nodes.Node.{Node}
use Rattle.graphql_documents.specs.declared.documents.schemas.ScalarType.{ScalarType}
use Rattle.graphql_documents.specs.declared.documents.schemas.Schema.{Schema}
use Rattle.graphql_documents.specs.declared.documents.schemas.ExtendedType.TheVariants.{Scalar, Object, Interface, Union, Enum, InputObject}
use Rattle.graphql_documents.specs.declared.documents.schemas.ObjectType.{ObjectType}
use Rattle.graphql_documents.specs.declared.documents.schemas.InterfaceType.{InterfaceType}
use Rattle.graphql_documents.specs.declared.documents.schemas.UnionType.{UnionType}
use Rattle.graphql_documents.specs.declared.documents.definitions.EnumValueDefinition.{EnumValueDefinition}
use Rattle.graphql_documents.specs.declared.documents.schemas.EnumType.{EnumType}
use Rattle.graphql_documents.specs.declared.documents.schemas.InputObjectType.{InputObjectType}
use Rattle.graphql_documents.specs.declared.documents.schemas.ExtendedType.{ExtendedType}
use Rattle.graphql_nodes.specs.declared.spans.SourceSpan.{SourceSpan}
use Rattle.graphql_nodes.specs.declared.directive_locations.DirectiveLocation.{DirectiveLocation}
use Rattle.graphql_diagnostics.specs.declared.data.DiagnosticData.{DiagnosticData}
use Rattle.graphql_documents.specs.declared.documents.components.Component.{Component}
use Rattle.graphql_documents.specs.declared.documents.components.ComponentName.{ComponentName}
use Rattle.graphql_documents.specs.declared.documents.definitions.FieldDefinition.{FieldDefinition}
use Rattle.graphql_documents.specs.declared.documents.definitions.InputValueDefinition.{InputValueDefinition}
use Rattle.graphql_nodes.specs.declared.directive_locations.DirectiveLocation.TheVariants as allowed_at
use Rattle.graphql_documents.specs.declared.documents.schemas.ExtendedType.TheVariants as types
use Rattle.graphql_diagnostics.specs.declared.data.DiagnosticData.TheVariants as report

-- a scalar holds; nothing is said of those that every schema has. Specification: 3.5 Scalars
abbrev pub ScalarHolds : Schema → Node ScalarType → Type 0
ScalarHolds schema d =
    IsTrue (is_built_in (Scalar d)) ⊎ DirectivesHoldAt schema allowed_at.Scalar (directives_of_type (Scalar d))

-- an object type holds. Specification: 3.6 Objects
pub record ObjectHolds (schema : Schema) (d : Node ObjectType) : Type 0 where
  pub directives : DirectivesHoldAt schema allowed_at.Object (directives_of_type (Object d))
  pub fields : FieldDefinitionsHold schema d.value.value.fields.entries
  pub is_not_empty : d.value.value.fields.entries ≢ []
  pub implementations : ImplementationsHold schema d.value.value.fields.entries d.value.value.implements_interfaces.keys

-- an interface holds. Specification: 3.7 Interfaces
pub record InterfaceHolds (schema : Schema) (d : Node InterfaceType) : Type 0 where
  pub directives : DirectivesHoldAt schema allowed_at.Interface (directives_of_type (Interface d))
  pub not_itself : DoesNotListItself d.value.value.name d.value.value.implements_interfaces.keys
  pub fields : FieldDefinitionsHold schema d.value.value.fields.entries
  pub is_not_empty : d.value.value.fields.entries ≢ []
  pub implementations : ImplementationsHold schema d.value.value.fields.entries d.value.value.implements_interfaces.keys

-- a union holds. Specification: 3.8 Unions
pub record UnionHolds (schema : Schema) (d : Node UnionType) : Type 0 where
  pub directives : DirectivesHoldAt schema allowed_at.Union (directives_of_type (Union d))
  pub members : All (λ member. NamesKind schema is_object_type member.name) d.value.value.members.keys
  pub is_not_empty : d.value.value.members.keys ≢ []

-- a value of an enum holds. Specification: 3.9 Enums
pub record EnumValueHolds (schema : Schema) (d : EnumValueDefinition) : Type 0 where
  pub name : IsFreeName d.value
  pub directives : DirectivesHoldAt schema allowed_at.EnumValue d.directives.items

-- an enum holds. Specification: 3.9 Enums
pub record EnumHolds (schema : Schema) (d : Node EnumType) : Type 0 where
  pub directives : DirectivesHoldAt schema allowed_at.Enum (directives_of_type (Enum d))
  pub values : All (λ entry. EnumValueHolds schema entry.1.node.value.value) d.value.value.values.entries
  pub is_not_empty : d.value.value.values.entries ≢ []

-- an input object holds. Specification: 3.10 Input Objects
pub record InputObjectHolds (schema : Schema) (d : Node InputObjectType) : Type 0 where
  pub directives : DirectivesHoldAt schema allowed_at.InputObject (directives_of_type (InputObject d))
  pub no_cycle : InputObjectHasNoCycle schema d
  pub fields : All (λ entry. InputValueDefinitionHolds schema allowed_at.InputFieldDefinition entry.1.node.value.value) d.value.value.fields.entries
  pub is_not_empty : d.value.value.fields.entries ≢ []

-- a type holds
abbrev pub TypeHolds : Schema → ExtendedType → Type 0
TypeHolds schema (Scalar d) = ScalarHolds schema d
TypeHolds schema (Object d) = ObjectHolds schema d
TypeHolds schema (Interface d) = InterfaceHolds schema d
TypeHolds schema (Union d) = UnionHolds schema d
TypeHolds schema (Enum d) = EnumHolds schema d
TypeHolds schema (InputObject d) = InputObjectHolds schema d

-- what is said of a type that is empty: it is reported at the type, with the places of its extensions
abbrev pub EmptyTypeReport : ExtendedType → NameText → Option SourceSpan → List (Option SourceSpan) → Option SourceSpan → Type 0
EmptyTypeReport d name type_location extensions at =
    (name ≡ own_name d) × (type_location ≡ location_of d) × (extensions ≡ extension_locations d) × (at ≡ location_of d)

-- where the directives of a type are. Specification: 3.13 Directives, TypeSystemDirectiveLocation
abbrev pub directive_location_of : ExtendedType → DirectiveLocation
directive_location_of (types.Scalar d) = allowed_at.Scalar
directive_location_of (types.Object d) = allowed_at.Object
directive_location_of (types.Interface d) = allowed_at.Interface
directive_location_of (types.Union d) = allowed_at.Union
directive_location_of (types.Enum d) = allowed_at.Enum
directive_location_of (types.InputObject d) = allowed_at.InputObject

-- nothing is said of the directives of a scalar that every schema has
abbrev pub is_unchecked : ExtendedType → Bool
is_unchecked (types.Scalar d) = is_built_in (types.Scalar d)
is_unchecked _ = false

-- an object type or an interface
abbrev pub has_fields : ExtendedType → Bool
has_fields (types.Object d) = true
has_fields (types.Interface d) = true
has_fields _ = false

-- the diagnostic names what is wrong with a value of an enum
pub data EnumValueReport (schema : Schema) (d : Node EnumValueDefinition) : DiagnosticData → Option SourceSpan → Type 0 where
  enum_value_name : {describe : Bor (List ℕ)} {name : NameText} {at : Option SourceSpan} →
      IsReserved (codes "an enum value") d.value.value.value describe.now name at →
      EnumValueReport schema d (report.ReservedName name describe) at
  enum_value_directives : {r : DiagnosticData} {at : Option SourceSpan} →
      DirectivesReport (Some schema) [] allowed_at.EnumValue d.value.value.directives.items r at → EnumValueReport schema d r at

-- the diagnostic names what is wrong with the contents of a type
pub data TypeReport (schema : Schema) : ExtendedType → DiagnosticData → Option SourceSpan → Type 0 where
  type_directives : {d : ExtendedType} {r : DiagnosticData} {at : Option SourceSpan} →
      IsFalse (is_unchecked d) → DirectivesReport (Some schema) [] (directive_location_of d) (directives_of_type d) r at → TypeReport schema d r at
  type_field_breaks : {d : ExtendedType} {entry : NameText × Component FieldDefinition} {r : DiagnosticData} {at : Option SourceSpan} →
      Contains (fields_of d) entry → FieldDefinitionReport schema entry.1.node r at → TypeReport schema d r at
  type_of_field_breaks : {d : ExtendedType} {entry : NameText × Component FieldDefinition} {r : DiagnosticData} {at : Option SourceSpan} →
      Contains (fields_of d) entry → FieldTypeReport schema entry.1.node r at → TypeReport schema d r at
  type_implementation : {d : ExtendedType} {r : DiagnosticData} {at : Option SourceSpan} →
      ImplementationReport schema d r at → TypeReport schema d r at
  input_field_breaks : {d : ExtendedType} {entry : NameText × Component InputValueDefinition} {r : DiagnosticData} {at : Option SourceSpan} →
      Contains (input_fields_of d) entry →
      InputValueReport schema allowed_at.InputFieldDefinition (codes "an input object field") entry.1.node r at → TypeReport schema d r at
  interface_lists_itself : {d : Node InterfaceType} {listed : ComponentName} {at : Option SourceSpan} →
      Contains d.value.value.implements_interfaces.keys listed → SameName listed.name d.value.value.name → at ≡ listed.name.location →
      TypeReport schema (types.Interface d) (report.RecursiveInterfaceDefinition listed.name) at
  input_object_requires_itself : {d : Node InputObjectType} {r : DiagnosticData} {at : Option SourceSpan} →
      InputObjectCycleReport schema d r at → TypeReport schema (types.InputObject d) r at
  enum_value_breaks : {d : Node EnumType} {entry : NameText × Component EnumValueDefinition} {r : DiagnosticData} {at : Option SourceSpan} →
      Contains d.value.value.values.entries entry → EnumValueReport schema entry.1.node r at → TypeReport schema (types.Enum d) r at
  member_is_undefined : {d : Node UnionType} {member : ComponentName} {at : Option SourceSpan} →
      Contains d.value.value.members.keys member → type_definition schema member.name ≡ None → at ≡ member.name.location →
      TypeReport schema (types.Union d) (report.UndefinedDefinition member.name) at
  member_is_no_object : {d : Node UnionType} {member : ComponentName} {describe : Bor (List ℕ)} {at : Option SourceSpan} →
      Contains d.value.value.members.keys member → IsOfOtherKind schema is_object_type member.name describe.now → at ≡ member.name.location →
      TypeReport schema (types.Union d) (report.UnionMemberObjectType member.name describe) at
  has_no_fields : {d : ExtendedType} {name : NameText} {type_location at : Option SourceSpan} {extensions : Vec (Option SourceSpan) Global} →
      IsTrue (has_fields d) → fields_of d ≡ [] → EmptyTypeReport d name type_location extensions.items at →
      TypeReport schema d (report.EmptyFieldSet name type_location extensions) at
  has_no_values : {d : Node EnumType} {name : NameText} {type_location at : Option SourceSpan} {extensions : Vec (Option SourceSpan) Global} →
      d.value.value.values.entries ≡ [] → EmptyTypeReport (types.Enum d) name type_location extensions.items at →
      TypeReport schema (types.Enum d) (report.EmptyValueSet name type_location extensions) at
  has_no_members : {d : Node UnionType} {name : NameText} {type_location at : Option SourceSpan} {extensions : Vec (Option SourceSpan) Global} →
      d.value.value.members.keys ≡ [] → EmptyTypeReport (types.Union d) name type_location extensions.items at →
      TypeReport schema (types.Union d) (report.EmptyMemberSet name type_location extensions) at
  has_no_input_fields : {d : Node InputObjectType} {name : NameText} {type_location at : Option SourceSpan} {extensions : Vec (Option SourceSpan) Global} →
      d.value.value.fields.entries ≡ [] → EmptyTypeReport (types.InputObject d) name type_location extensions.items at →
      TypeReport schema (types.InputObject d) (report.EmptyInputValueSet name type_location extensions) at

-- the diagnostic names what is wrong with one of the types of a schema, or with the name under which it is
pub data TypesReport (schema : Schema) : DiagnosticData → Option SourceSpan → Type 0 where
  name_of_type : {entry : NameText × ExtendedType} {describe : Bor (List ℕ)} {name : NameText} {at : Option SourceSpan} →
      Contains schema.types.entries entry → IsReserved (kind_text entry.1) entry.0 describe.now name at →
      TypesReport schema (report.ReservedName name describe) at
  type_breaks : {entry : NameText × ExtendedType} {r : DiagnosticData} {at : Option SourceSpan} →
      Contains schema.types.entries entry → TypeReport schema entry.1 r at → TypesReport schema r at

-- a diagnostic of a limit is true of one of the types of a schema
pub data TypesLimit (schema : Schema) : DiagnosticData → Option SourceSpan → Type 0 where
  input_object_nests : {entry : NameText × ExtendedType} {d : Node InputObjectType} {name : NameText} {describe : Bor (List ℕ)} {at : Option SourceSpan} →
      Contains schema.types.entries entry → entry.1 ≡ types.InputObject d → InputObjectNestsTooDeep schema d name describe.now at →
      TypesLimit schema (report.DeeplyNestedType name describe) at
