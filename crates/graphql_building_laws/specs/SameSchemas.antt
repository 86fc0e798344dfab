-- Schemas that are the same but for places in memory. Specification: 3 Type System.
use Rattle.std.specs.Prelude.{◌≡◌, List}
use Rattle.std.specs.List.{AllZip}
use Rattle.graphql_nodes.specs.Names.{NameText}
use Rattle.graphql_nodes.specs.declared.nodes.Node.{Node}
use Rattle.graphql_documents.specs.declared.documents.components.Component.{Component}
use Rattle.graphql_documents.specs.declared.documents.meta_fields.MetaFields.{MetaFields}
use Rattle.graphql_documents.specs.declared.documents.schemas.EnumType.{EnumType}
use Rattle.graphql_documents.specs.declared.documents.schemas.ExtendedType.{ExtendedType}
use Rattle.graphql_documents.specs.declared.documents.schemas.ExtendedType.TheVariants.{Scalar, Object, Interface, Union, Enum, InputObject}
use Rattle.graphql_documents.specs.declared.documents.schemas.InputObjectType.{InputObjectType}
use Rattle.graphql_documents.specs.declared.documents.schemas.InterfaceType.{InterfaceType}
use Rattle.graphql_documents.specs.declared.documents.schemas.ObjectType.{ObjectType}
use Rattle.graphql_documents.specs.declared.documents.schemas.ScalarType.{ScalarType}
use Rattle.graphql_documents.specs.declared.documents.schemas.Schema.{Schema}
use Rattle.graphql_documents.specs.declared.documents.schemas.SchemaDefinition.{SchemaDefinition}
use Rattle.graphql_documents.specs.declared.documents.schemas.UnionType.{UnionType}
use Rattle.graphql_document_building.specs.SameDocuments.{SameUnderName}
use Rattle.graphql_document_building.specs.SameLeaves.{SameDirective, SameDirectiveDefinition, SameEnumValue, SameField, SameInputValue}

-- components: of the same origin
abbrev pub SameComponent : {X : Type 0} → (Node X → Node X → Type 0) → Component X → Component X → Type 0
SameComponent Same a b = (a.origin ≡ b.origin) × Same a.node b.node

abbrev pub SameComponents : {X : Type 0} → (Node X → Node X → Type 0) → List (Component X) → List (Component X) → Type 0
SameComponents Same xs ys = AllZip (SameComponent Same) xs ys

abbrev pub SameEntries : {X : Type 0} → (Node X → Node X → Type 0) → List (NameText × Component X) → List (NameText × Component X) → Type 0
SameEntries Same xs ys = AllZip (SameUnderName (SameComponent Same)) xs ys

-- 3.5 Scalars
pub record SameScalar (a b : Node ScalarType) : Type 0 where
  pub name : a.value.value.name ≡ b.value.value.name
  pub directives : SameComponents SameDirective a.value.value.directives.items b.value.value.directives.items
  pub location : a.location ≡ b.location

-- 3.6 Objects
pub record SameObject (a b : Node ObjectType) : Type 0 where
  pub name : a.value.value.name ≡ b.value.value.name
  pub implements_interfaces : a.value.value.implements_interfaces.keys ≡ b.value.value.implements_interfaces.keys
  pub directives : SameComponents SameDirective a.value.value.directives.items b.value.value.directives.items
  pub fields : SameEntries SameField a.value.value.fields.entries b.value.value.fields.entries
  pub location : a.location ≡ b.location

-- 3.7 Interfaces
pub record SameInterface (a b : Node InterfaceType) : Type 0 where
  pub name : a.value.value.name ≡ b.value.value.name
  pub implements_interfaces : a.value.value.implements_interfaces.keys ≡ b.value.value.implements_interfaces.keys
  pub directives : SameComponents SameDirective a.value.value.directives.items b.value.value.directives.items
  pub fields : SameEntries SameField a.value.value.fields.entries b.value.value.fields.entries
  pub location : a.location ≡ b.location

-- 3.8 Unions
pub record SameUnion (a b : Node UnionType) : Type 0 where
  pub name : a.value.value.name ≡ b.value.value.name
  pub directives : SameComponents SameDirective a.value.value.directives.items b.value.value.directives.items
  pub members : a.value.value.members.keys ≡ b.value.value.members.keys
  pub location : a.location ≡ b.location

-- 3.9 Enums
pub record SameEnum (a b : Node EnumType) : Type 0 where
  pub name : a.value.value.name ≡ b.value.value.name
  pub directives : SameComponents SameDirective a.value.value.directives.items b.value.value.directives.items
  pub values : SameEntries SameEnumValue a.value.value.values.entries b.value.value.values.entries
  pub location : a.location ≡ b.location

-- 3.10 Input Objects
pub record SameInputObject (a b : Node InputObjectType) : Type 0 where
  pub name : a.value.value.name ≡ b.value.value.name
  pub directives : SameComponents SameDirective a.value.value.directives.items b.value.value.directives.items
  pub fields : SameEntries SameInputValue a.value.value.fields.entries b.value.value.fields.entries
  pub location : a.location ≡ b.location

-- types of one kind
abbrev pub SameType : ExtendedType → ExtendedType → Type 0
SameType (Scalar a) (Scalar b) = SameScalar a b
SameType (Object a) (Object b) = SameObject a b
SameType (Interface a) (Interface b) = SameInterface a b
SameType (Union a) (Union b) = SameUnion a b
SameType (Enum a) (Enum b) = SameEnum a b
SameType (InputObject a) (InputObject b) = SameInputObject a b
SameType _ _ = ⊥

-- 3.3 Schema
pub record SameSchemaDefinition (a b : Node SchemaDefinition) : Type 0 where
  pub directives : SameComponents SameDirective a.value.value.directives.items b.value.value.directives.items
  pub query : a.value.value.query ≡ b.value.value.query
  pub mutation : a.value.value.mutation ≡ b.value.value.mutation
  pub subscription : a.value.value.subscription ≡ b.value.value.subscription
  pub location : a.location ≡ b.location

-- 4.1 Type Name Introspection, 4.2 Schema Introspection
pub record SameMetaFields (a b : MetaFields) : Type 0 where
  pub typename : SameComponent SameField a.typename b.typename
  pub schema : SameComponent SameField a.schema b.schema
  pub type_by_name : SameComponent SameField a.type_by_name b.type_by_name

pub record SameSchema (a b : Schema) : Type 0 where
  pub schema_definition : SameSchemaDefinition a.schema_definition b.schema_definition
  pub directive_definitions : AllZip (SameUnderName SameDirectiveDefinition) a.directive_definitions.entries b.directive_definitions.entries
  pub types : AllZip (SameUnderName SameType) a.types.entries b.types.entries
  pub meta_fields : SameMetaFields a.meta_fields b.meta_fields
