-- Schemas that are the same: sameness goes both ways, and is that of a schema with itself.
use Rattle.std.proofs.Common.{List, refl, sym}
use Rattle.graphql_nodes.specs.Names.{NameText}
use Rattle.graphql_nodes.specs.declared.nodes.Node.{Node}
use Rattle.graphql_documents.specs.declared.documents.components.Component.{Component}
use Rattle.graphql_documents.specs.declared.documents.meta_fields.MetaFields.{MetaFields}
use Rattle.graphql_documents.specs.declared.documents.schemas.EnumType.{EnumType}
use Rattle.graphql_documents.specs.declared.documents.schemas.ExtendedType.{ExtendedType}
use Rattle.graphql_documents.specs.declared.documents.schemas.InputObjectType.{InputObjectType}
use Rattle.graphql_documents.specs.declared.documents.schemas.InterfaceType.{InterfaceType}
use Rattle.graphql_documents.specs.declared.documents.schemas.ObjectType.{ObjectType}
use Rattle.graphql_documents.specs.declared.documents.schemas.ScalarType.{ScalarType}
use Rattle.graphql_documents.specs.declared.documents.schemas.Schema.{Schema}
use Rattle.graphql_documents.specs.declared.documents.schemas.SchemaDefinition.{SchemaDefinition}
use Rattle.graphql_documents.specs.declared.documents.schemas.UnionType.{UnionType}
use Rattle.graphql_documents.specs.declared.documents.schemas.ExtendedType.TheVariants.{Scalar, Object, Interface, Union, Enum, InputObject}
use Rattle.graphql_document_building.specs.SameDocuments.{SameUnderName}
use Rattle.graphql_document_building.specs.SameLeaves.{SameDirective, SameDirectiveDefinition, SameEnumValue, SameField, SameInputValue}
use Rattle.graphql_building_laws.specs.SameSchemas.{SameComponent, SameComponents, SameEntries, SameEnum, SameInputObject, SameInterface, SameMetaFields, SameObject, SameScalar, SameSchema, SameSchemaDefinition, SameType, SameUnion}
use Rattle.graphql_sameness_laws.proofs.LeafLemmas.{directive_back, directive_definition_back, directive_definition_itself, directive_itself, enum_value_back, enum_value_itself, field_back, field_itself, input_value_back, input_value_itself}
use Rattle.graphql_sameness_laws.proofs.ZipLemmas.{zip_back, zip_itself}

under_name_back : {X : Type 0} (R : X → X → Type 0) → ((a b : X) → R a b → R b a) → (a b : NameText × X) → SameUnderName R a b → SameUnderName R b a
under_name_back R one a b p = (sym p.0, one a.1 b.1 p.1)

module _ {X : Type 0} (R : Node X → Node X → Type 0) where
  pub component_back : ((a b : Node X) → R a b → R b a) → (a b : Component X) → SameComponent R a b → SameComponent R b a
  component_back one a b p = (sym p.0, one a.node b.node p.1)

  components_back : ((a b : Node X) → R a b → R b a) → (xs ys : List (Component X)) → SameComponents R xs ys → SameComponents R ys xs
  components_back one = zip_back (SameComponent R) (SameComponent R) (component_back one)

  entries_back : ((a b : Node X) → R a b → R b a) → (xs ys : List (NameText × Component X)) → SameEntries R xs ys → SameEntries R ys xs
  entries_back one = zip_back (SameUnderName (SameComponent R)) (SameUnderName (SameComponent R)) (under_name_back (SameComponent R) (component_back one))

  component_itself : ((a : Node X) → R a a) → (a : Component X) → SameComponent R a a
  component_itself one a = (refl, one a.node)

  components_themselves : ((a : Node X) → R a a) → (xs : List (Component X)) → SameComponents R xs xs
  components_themselves one = zip_itself (SameComponent R) (component_itself one)

  entries_themselves : ((a : Node X) → R a a) → (xs : List (NameText × Component X)) → SameEntries R xs xs
  entries_themselves one = zip_itself (SameUnderName (SameComponent R)) (λ e. (refl, component_itself one e.1))

scalar_back : (a b : Node ScalarType) → SameScalar a b → SameScalar b a
scalar_back a b p = record {
  name = sym p.name;
  directives = components_back SameDirective directive_back _ _ p.directives;
  location = sym p.location;
}

scalar_itself : (a : Node ScalarType) → SameScalar a a
scalar_itself a = record {
  name = refl;
  directives = components_themselves SameDirective directive_itself a.value.value.directives.items;
  location = refl;
}

pub object_back : (a b : Node ObjectType) → SameObject a b → SameObject b a
object_back a b p = record {
  name = sym p.name;
  implements_interfaces = sym p.implements_interfaces;
  directives = components_back SameDirective directive_back _ _ p.directives;
  fields = entries_back SameField field_back _ _ p.fields;
  location = sym p.location;
}

object_itself : (a : Node ObjectType) → SameObject a a
object_itself a = record {
  name = refl;
  implements_interfaces = refl;
  directives = components_themselves SameDirective directive_itself a.value.value.directives.items;
  fields = entries_themselves SameField field_itself a.value.value.fields.entries;
  location = refl;
}

pub interface_back : (a b : Node InterfaceType) → SameInterface a b → SameInterface b a
interface_back a b p = record {
  name = sym p.name;
  implements_interfaces = sym p.implements_interfaces;
  directives = components_back SameDirective directive_back _ _ p.directives;
  fields = entries_back SameField field_back _ _ p.fields;
  location = sym p.location;
}

interface_itself : (a : Node InterfaceType) → SameInterface a a
interface_itself a = record {
  name = refl;
  implements_interfaces = refl;
  directives = components_themselves SameDirective directive_itself a.value.value.directives.items;
  fields = entries_themselves SameField field_itself a.value.value.fields.entries;
  location = refl;
}

union_back : (a b : Node UnionType) → SameUnion a b → SameUnion b a
union_back a b p = record {
  name = sym p.name;
  directives = components_back SameDirective directive_back _ _ p.directives;
  members = sym p.members;
  location = sym p.location;
}

union_itself : (a : Node UnionType) → SameUnion a a
union_itself a = record {
  name = refl;
  directives = components_themselves SameDirective directive_itself a.value.value.directives.items;
  members = refl;
  location = refl;
}

pub enum_back : (a b : Node EnumType) → SameEnum a b → SameEnum b a
enum_back a b p = record {
  name = sym p.name;
  directives = components_back SameDirective directive_back _ _ p.directives;
  values = entries_back SameEnumValue enum_value_back _ _ p.values;
  location = sym p.location;
}

enum_itself : (a : Node EnumType) → SameEnum a a
enum_itself a = record {
  name = refl;
  directives = components_themselves SameDirective directive_itself a.value.value.directives.items;
  values = entries_themselves SameEnumValue enum_value_itself a.value.value.values.entries;
  location = refl;
}

pub input_object_back : (a b : Node InputObjectType) → SameInputObject a b → SameInputObject b a
input_object_back a b p = record {
  name = sym p.name;
  directives = components_back SameDirective directive_back _ _ p.directives;
  fields = entries_back SameInputValue input_value_back _ _ p.fields;
  location = sym p.location;
}

input_object_itself : (a : Node InputObjectType) → SameInputObject a a
input_object_itself a = record {
  name = refl;
  directives = components_themselves SameDirective directive_itself a.value.value.directives.items;
  fields = entries_themselves SameInputValue input_value_itself a.value.value.fields.entries;
  location = refl;
}

schema_definition_back : (a b : Node SchemaDefinition) → SameSchemaDefinition a b → SameSchemaDefinition b a
schema_definition_back a b p = record {
  directives = components_back SameDirective directive_back _ _ p.directives;
  query = sym p.query;
  mutation = sym p.mutation;
  subscription = sym p.subscription;
  location = sym p.location;
}

schema_definition_itself : (a : Node SchemaDefinition) → SameSchemaDefinition a a
schema_definition_itself a = record {
  directives = components_themselves SameDirective directive_itself a.value.value.directives.items;
  query = refl;
  mutation = refl;
  subscription = refl;
  location = refl;
}

pub type_back : (a b : ExtendedType) → SameType a b → SameType b a
type_back (Scalar a) (Scalar b) p = scalar_back a b p
type_back (Scalar a) (Object b) p = absurd p
type_back (Scalar a) (Interface b) p = absurd p
type_back (Scalar a) (Union b) p = absurd p
type_back (Scalar a) (Enum b) p = absurd p
type_back (Scalar a) (InputObject b) p = absurd p
type_back (Object a) (Scalar b) p = absurd p
type_back (Object a) (Object b) p = object_back a b p
type_back (Object a) (Interface b) p = absurd p
type_back (Object a) (Union b) p = absurd p
type_back (Object a) (Enum b) p = absurd p
type_back (Object a) (InputObject b) p = absurd p
type_back (Interface a) (Scalar b) p = absurd p
type_back (Interface a) (Object b) p = absurd p
type_back (Interface a) (Interface b) p = interface_back a b p
type_back (Interface a) (Union b) p = absurd p
type_back (Interface a) (Enum b) p = absurd p
type_back (Interface a) (InputObject b) p = absurd p
type_back (Union a) (Scalar b) p = absurd p
type_back (Union a) (Object b) p = absurd p
type_back (Union a) (Interface b) p = absurd p
type_back (Union a) (Union b) p = union_back a b p
type_back (Union a) (Enum b) p = absurd p
type_back (Union a) (InputObject b) p = absurd p
type_back (Enum a) (Scalar b) p = absurd p
type_back (Enum a) (Object b) p = absurd p
type_back (Enum a) (Interface b) p = absurd p
type_back (Enum a) (Union b) p = absurd p
type_back (Enum a) (Enum b) p = enum_back a b p
type_back (Enum a) (InputObject b) p = absurd p
type_back (InputObject a) (Scalar b) p = absurd p
type_back (InputObject a) (Object b) p = absurd p
type_back (InputObject a) (Interface b) p = absurd p
type_back (InputObject a) (Union b) p = absurd p
type_back (InputObject a) (Enum b) p = absurd p
type_back (InputObject a) (InputObject b) p = input_object_back a b p

type_itself : (a : ExtendedType) → SameType a a
type_itself (Scalar a) = scalar_itself a
type_itself (Object a) = object_itself a
type_itself (Interface a) = interface_itself a
type_itself (Union a) = union_itself a
type_itself (Enum a) = enum_itself a
type_itself (InputObject a) = input_object_itself a

meta_fields_back : (a b : MetaFields) → SameMetaFields a b → SameMetaFields b a
meta_fields_back a b p = record {
  typename = component_back SameField field_back _ _ p.typename;
  schema = component_back SameField field_back _ _ p.schema;
  type_by_name = component_back SameField field_back _ _ p.type_by_name;
}

pub schema_back : (a b : Schema) → SameSchema a b → SameSchema b a
schema_back a b p = record {
  schema_definition = schema_definition_back _ _ p.schema_definition;
  directive_definitions = zip_back (SameUnderName SameDirectiveDefinition) (SameUnderName SameDirectiveDefinition)
      (under_name_back SameDirectiveDefinition directive_definition_back) _ _ p.directive_definitions;
  types = zip_back (SameUnderName SameType) (SameUnderName SameType) (under_name_back SameType type_back) _ _ p.types;
  meta_fields = meta_fields_back _ _ p.meta_fields;
}

pub schema_itself : (a : Schema) → SameSchema a a
schema_itself a = record {
  schema_definition = schema_definition_itself a.schema_definition;
  directive_definitions = zip_itself (SameUnderName SameDirectiveDefinition) (λ e. (refl, directive_definition_itself e.1)) a.directive_definitions.entries;
  types = zip_itself (SameUnderName SameType) (λ e. (refl, type_itself e.1)) a.types.entries;
  meta_fields = record {
    typename = component_itself SameField field_itself a.meta_fields.typename;
    schema = component_itself SameField field_itself a.meta_fields.schema;
    type_by_name = component_itself SameField field_itself a.meta_fields.type_by_name;
  };
}
