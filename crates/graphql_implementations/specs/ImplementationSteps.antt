-- The rules of implementing as they are checked, field by field. Specification: 3.6 Objects, IsValidImplementation.
use Rattle.std.specs.Prelude.{◌≡◌, List, Option, Some, All, Contains, IsSome, IsTrue}
use Rattle.graphql_documents.specs.Definitions.{definition_named}
use Rattle.graphql_specification.specs.Implementations.{ImplementationFieldArgumentsReport, ImplementationFieldTypesReport, InterfaceFieldsReport, InterfacesReport, ArgumentsImplement, FieldList, ImplementsField, IsListedInterface, IsValidImplementationType, field_under}
use Rattle.graphql_nodes.specs.Names.{NameText}
use Rattle.graphql_documents.specs.Schemas.{IsInterface, IsListed, is_required}
use Rattle.graphql_documents.specs.TypeReferences.{same_type}
use Rattle.graphql_diagnostics.specs.declared.data.DiagnosticData.{DiagnosticData}
use Rattle.graphql_documents.specs.declared.documents.components.Component.{Component}
use Rattle.graphql_documents.specs.declared.documents.components.ComponentName.{ComponentName}
use Rattle.graphql_documents.specs.declared.documents.definitions.FieldDefinition.{FieldDefinition}
use Rattle.graphql_documents.specs.declared.documents.definitions.InputValueDefinition.{InputValueDefinition}
use Rattle.graphql_nodes.specs.declared.nodes.Node.{Node}
use Rattle.graphql_documents.specs.declared.documents.schemas.InterfaceType.{InterfaceType}
use Rattle.graphql_documents.specs.declared.documents.schemas.Schema.{Schema}
use Rattle.graphql_nodes.specs.declared.spans.SourceSpan.{SourceSpan}
use Rattle.graphql_implementations.specs.declared.implementer.FieldRule.{FieldRule}
use Rattle.graphql_implementations.specs.declared.implementer.FieldRule.TheVariants.{IsProvided, Implements}
use Rattle.graphql_implementations.specs.declared.implementer.Implementer.{Implementer}
use Rattle.graphql_implementations.specs.declared.implementer.ImplementingField.{ImplementingField}
use Rattle.graphql_implementations.specs.declared.implementer.OwnFieldRule.{OwnFieldRule}
use Rattle.graphql_implementations.specs.declared.implementer.OwnFieldRule.TheVariants.{OutputType, Arguments}
use Rattle.graphql_implementations.specs.declared.names.ListedInterfaces.{ListedInterfaces}

-- a field as it is in a type, under its name
abbrev pub FieldEntry : Type 0
FieldEntry = NameText × Component FieldDefinition

-- the name is that of an interface
abbrev pub NamesInterface : Schema → NameText → Type 0
NamesInterface schema name = (d : Node InterfaceType) × IsInterface schema name d

-- this holds of the interface of the name, if there is one
abbrev pub OfInterface : Schema → NameText → (Node InterfaceType → Type 0) → Type 0
OfInterface schema name Holds = (d : Node InterfaceType) → IsInterface schema name d → Holds d

-- what the interface of the name lists is listed among these too
abbrev pub ListsAllOf : Schema → List ComponentName → ComponentName → Type 0
ListsAllOf schema interfaces listed =
    OfInterface schema listed.name (λ d. All (λ further. IsListed further.name interfaces) d.value.value.implements_interfaces.keys)

-- this holds of each field of the interface of the name, if there is one
abbrev pub OfEachField : Schema → NameText → (FieldEntry → Type 0) → Type 0
OfEachField schema name Holds = OfInterface schema name (λ d. All Holds d.value.value.fields.entries)

-- there is a field under the own name of an interface's
abbrev pub HasFieldOf : FieldList → Component FieldDefinition → Type 0
HasFieldOf fields wanted = IsSome (field_under wanted.node.value.value.name fields)

-- this holds of an interface's field and the one under its name among these, if there is one
abbrev pub OfOwnField : FieldList → (Component FieldDefinition → Component FieldDefinition → Type 0) → FieldEntry → Type 0
OfOwnField fields Holds entry = (own : Component FieldDefinition) → field_under entry.0 fields ≡ Some own → Holds entry.1 own

-- the type of the second field may stand for that of the first
abbrev pub TypeImplements : Schema → Component FieldDefinition → Component FieldDefinition → Type 0
TypeImplements schema wanted own = IsValidImplementationType schema wanted.node.value.value.ty own.node.value.value.ty

-- the arguments of a field
abbrev pub arguments_of : Component FieldDefinition → List (Node InputValueDefinition)
arguments_of field = field.node.value.value.arguments.items

-- the arguments of the second field agree with those of the first
abbrev pub FieldArgumentsAgree : Component FieldDefinition → Component FieldDefinition → Type 0
FieldArgumentsAgree wanted own = ArgumentsImplement (arguments_of wanted) (arguments_of own)

-- the first argument of the name is there, with an equal type
abbrev pub IsArgumentImplemented : List (Node InputValueDefinition) → Node InputValueDefinition → Type 0
IsArgumentImplemented own a =
    (b : Node InputValueDefinition) × (definition_named a.value.value.name own ≡ Some b) ×
    IsTrue (same_type a.value.value.ty.value.value b.value.value.ty.value.value)

-- an argument that is required is one of these
abbrev pub IsNoExtra : List (Node InputValueDefinition) → Node InputValueDefinition → Type 0
IsNoExtra wanted b = IsTrue (is_required b.value.value) → IsSome (definition_named b.value.value.name wanted)

-- a field of an interface that is listed
pub record IsInterfaceField (schema : Schema) (interfaces : List ComponentName) (listed : ComponentName) (entry : FieldEntry) : Type 0 where
  pub interface : Node InterfaceType
  pub is_listed : IsListedInterface schema interfaces listed interface
  pub stands : Contains interface.value.value.fields.entries entry

-- what a diagnostic says of the interfaces that a type lists
abbrev pub ListingReport : ListedInterfaces → DiagnosticData → Option SourceSpan → Type 0
ListingReport l = InterfacesReport l.schema.now l.owner.now l.location l.names.now.keys

-- the type lists the name
abbrev pub Lists : Implementer → ComponentName → Type 0
Lists i listed = Contains i.interfaces.now.keys listed

-- a field of an interface that the type lists
abbrev pub HasToImplement : Implementer → ComponentName → FieldEntry → Type 0
HasToImplement i listed entry = IsInterfaceField i.schema.now i.interfaces.now.keys listed entry

-- the two are a field of an interface that the type lists, and the type's own under its name
abbrev pub IsImplementing : ImplementingField → Type 0
IsImplementing f =
    ImplementsField f.implementer.now.schema.now f.implementer.now.fields.now.entries f.implementer.now.interfaces.now.keys
    f.listed.now f.name.now f.wanted.now f.own.now

-- what a diagnostic says of the fields that the type lacks
abbrev pub ImplementedFieldsReport : Implementer → Option SourceSpan → DiagnosticData → Option SourceSpan → Type 0
ImplementedFieldsReport i location = InterfaceFieldsReport i.schema.now i.name.now location i.fields.now.entries i.interfaces.now.keys

-- what a diagnostic says of the types of its fields
abbrev pub ImplementedFieldTypesReport : Implementer → DiagnosticData → Option SourceSpan → Type 0
ImplementedFieldTypesReport i = ImplementationFieldTypesReport i.schema.now i.name.now i.fields.now.entries i.interfaces.now.keys

-- what a diagnostic says of their arguments
abbrev pub ImplementedArgumentsReport : Implementer → DiagnosticData → Option SourceSpan → Type 0
ImplementedArgumentsReport i = ImplementationFieldArgumentsReport i.schema.now i.name.now i.fields.now.entries i.interfaces.now.keys

-- what the rule says of an interface's field and the type's own under its name
abbrev pub OwnFieldHolds : Schema → OwnFieldRule → Component FieldDefinition → Component FieldDefinition → Type 0
OwnFieldHolds schema OutputType = TypeImplements schema
OwnFieldHolds schema Arguments = FieldArgumentsAgree

-- what the rule says of a field of an interface
abbrev pub FieldRuleHolds : Implementer → FieldRule → FieldEntry → Type 0
FieldRuleHolds i (IsProvided location) entry = HasFieldOf i.fields.now.entries entry.1
FieldRuleHolds i (Implements rule) entry = OfOwnField i.fields.now.entries (OwnFieldHolds i.schema.now rule) entry

-- what a diagnostic says where the rule is broken
abbrev pub OwnFieldReport : Implementer → OwnFieldRule → DiagnosticData → Option SourceSpan → Type 0
OwnFieldReport i OutputType = ImplementedFieldTypesReport i
OwnFieldReport i Arguments = ImplementedArgumentsReport i

abbrev pub FieldRuleReport : Implementer → FieldRule → DiagnosticData → Option SourceSpan → Type 0
FieldRuleReport i (IsProvided location) = ImplementedFieldsReport i location
FieldRuleReport i (Implements rule) = OwnFieldReport i rule
