-- What texts say as a schema is the same but for places in memory.
use Rattle.std.proofs.Common.{◌≡◌, ◌∙◌, ℕ, All, Bool, List, [], ◌∷◌, codes, false, refl, sym}
use Rattle.std.proofs.lemmas.List.Elements.{All-cons, All-nil}
use Rattle.graphql_nodes.specs.Names.{NameText}
use Rattle.graphql_nodes.specs.declared.nodes.Node.{Node}
use Rattle.graphql_documents.specs.MetaFields.{ComponentHasNoPlace, HasSignature}
use Rattle.graphql_documents.specs.declared.documents.components.Component.{Component}
use Rattle.graphql_documents.specs.declared.documents.definitions.DirectiveDefinition as typed_directive
use Rattle.graphql_documents.specs.declared.documents.definitions.FieldDefinition.{FieldDefinition}
use Rattle.graphql_documents.specs.declared.documents.meta_fields.MetaFields.{MetaFields}
use Rattle.graphql_documents.specs.declared.documents.schemas.ExtendedType.{ExtendedType}
use Rattle.graphql_documents.specs.declared.documents.schemas.ExtendedType.TheVariants as typed
use Rattle.graphql_documents.specs.declared.documents.schemas.EnumType.{EnumType}
use Rattle.graphql_documents.specs.declared.documents.schemas.InputObjectType.{InputObjectType}
use Rattle.graphql_documents.specs.declared.documents.schemas.InterfaceType.{InterfaceType}
use Rattle.graphql_documents.specs.declared.documents.schemas.ObjectType.{ObjectType}
use Rattle.graphql_documents.specs.declared.documents.schemas.ScalarType.{ScalarType}
use Rattle.graphql_documents.specs.declared.documents.schemas.Schema.{Schema}
use Rattle.graphql_documents.specs.declared.documents.schemas.SchemaDefinition as typed_schema
use Rattle.graphql_documents.specs.declared.documents.schemas.UnionType.{UnionType}
use Rattle.graphql_trees.specs.declared.documents.Definition.{Definition}
use Rattle.graphql_trees.specs.declared.documents.Document.{Document}
use Rattle.graphql_trees.specs.declared.type_system.DirectiveDefinition.{DirectiveDefinition}
use Rattle.graphql_trees.specs.declared.type_system.TypeDefinition.{TypeDefinition}
use Rattle.graphql_trees.specs.declared.type_system.TypeDefinition.TheVariants.{Scalar, Object, Interface, Union, Enum, InputObject}
use Rattle.graphql_leaf_building.specs.Definitions.{DirectiveDefinitionSays, EnumValueSays, FieldDefinitionSays, InputValueSays}
use Rattle.graphql_leaf_building.specs.Directives.{DirectiveSays}
use Rattle.graphql_document_building.proofs.SameFieldLemmas.{HasNoDefault, field_of_no_text_is_same}
use Rattle.graphql_document_building.proofs.SameLeafLemmas.{both_said, directive_definition_is_same, directive_is_same, enum_value_is_same, field_is_same, input_value_is_same}
use Rattle.graphql_document_building.specs.SameDocuments.{SameUnderName}
use Rattle.graphql_document_building.specs.SameLeaves.{SameDirective, SameDirectiveDefinition, SameEnumValue, SameField, SameInputValue}
use Rattle.graphql_schema_building.specs.Parts.{ComponentsSay, EntriesSay, Originated}
use Rattle.graphql_schema_building.specs.SchemaSays.{MetaFieldsHaveNoPlace, SchemaDefinitionSays, SchemaSays}
use Rattle.graphql_schema_building.specs.TypesSay.{EnumSays, InputObjectSays, InterfaceSays, ObjectSays, PartsSay, ScalarSays, TypeSays, UnionSays}
use Rattle.graphql_schema_checking.specs.Definitions.{definitions_in, name_of, types}
use Rattle.graphql_schema_building.specs.SchemaSays.{directives_said}
use Rattle.graphql_building_laws.specs.SameSchemas.{SameComponent, SameComponents, SameEntries, SameEnum, SameInputObject, SameInterface, SameMetaFields, SameObject, SameScalar, SameSchema, SameSchemaDefinition, SameType, SameUnion}

module _ {X Y : Type 0} (Says : X → Node Y → Type 0) (Same : Node Y → Node Y → Type 0) (one : (t : X) (a b : Node Y) → Says t a → Says t b → Same a b) where
  components_are_same : (ts : List (Originated X)) (xs ys : List (Component Y)) → ComponentsSay Says ts xs → ComponentsSay Says ts ys → SameComponents Same xs ys
  components_are_same ts xs ys p q =
      both_said (λ (x : Originated X) (c : Component Y). (c.origin ≡ x.0) × Says x.1 c.node) (SameComponent Same)
      (λ t a b p q. (p.0 ∙ sym q.0, one t.1 a.node b.node p.1 q.1)) ts xs ys p q

  entries_are_same : (name : X → NameText) (ts : List (Originated X)) (xs ys : List (NameText × Component Y)) →
      EntriesSay name Says ts xs → EntriesSay name Says ts ys → SameEntries Same xs ys
  entries_are_same name ts xs ys p q =
      both_said (λ (x : Originated X) (e : NameText × Component Y). (e.0 ≡ name x.1) × (e.1.origin ≡ x.0) × Says x.1 e.1.node) (SameUnderName (SameComponent Same))
      (λ t a b p q. (p.0 ∙ sym q.0, (p.1 ∙ sym q.1, one t.1 a.1.node b.1.node p.2 q.2))) ts xs ys p q

module _ (d : TypeDefinition) (parts : List (Originated TypeDefinition)) where
  scalar_is_same : (a b : Node ScalarType) → ScalarSays d parts a → ScalarSays d parts b → SameScalar a b
  scalar_is_same a b p q = record {
    name = p.name ∙ sym q.name;
    directives = components_are_same DirectiveSays SameDirective directive_is_same _ _ _ p.directives q.directives;
    location = p.location ∙ sym q.location;
  }

  object_is_same : (a b : Node ObjectType) → ObjectSays d parts a → ObjectSays d parts b → SameObject a b
  object_is_same a b p q = record {
    name = p.name ∙ sym q.name;
    implements_interfaces = p.implements_interfaces ∙ sym q.implements_interfaces;
    directives = components_are_same DirectiveSays SameDirective directive_is_same _ _ _ p.directives q.directives;
    fields = entries_are_same FieldDefinitionSays SameField field_is_same _ _ _ _ p.fields q.fields;
    location = p.location ∙ sym q.location;
  }

  interface_is_same : (a b : Node InterfaceType) → InterfaceSays d parts a → InterfaceSays d parts b → SameInterface a b
  interface_is_same a b p q = record {
    name = p.name ∙ sym q.name;
    implements_interfaces = p.implements_interfaces ∙ sym q.implements_interfaces;
    directives = components_are_same DirectiveSays SameDirective directive_is_same _ _ _ p.directives q.directives;
    fields = entries_are_same FieldDefinitionSays SameField field_is_same _ _ _ _ p.fields q.fields;
    location = p.location ∙ sym q.location;
  }

  union_is_same : (a b : Node UnionType) → UnionSays d parts a → UnionSays d parts b → SameUnion a b
  union_is_same a b p q = record {
    name = p.name ∙ sym q.name;
    directives = components_are_same DirectiveSays SameDirective directive_is_same _ _ _ p.directives q.directives;
    members = p.members ∙ sym q.members;
    location = p.location ∙ sym q.location;
  }

  enum_is_same : (a b : Node EnumType) → EnumSays d parts a → EnumSays d parts b → SameEnum a b
  enum_is_same a b p q = record {
    name = p.name ∙ sym q.name;
    directives = components_are_same DirectiveSays SameDirective directive_is_same _ _ _ p.directives q.directives;
    values = entries_are_same EnumValueSays SameEnumValue enum_value_is_same _ _ _ _ p.values q.values;
    location = p.location ∙ sym q.location;
  }

  input_object_is_same : (a b : Node InputObjectType) → InputObjectSays d parts a → InputObjectSays d parts b → SameInputObject a b
  input_object_is_same a b p q = record {
    name = p.name ∙ sym q.name;
    directives = components_are_same DirectiveSays SameDirective directive_is_same _ _ _ p.directives q.directives;
    fields = entries_are_same InputValueSays SameInputValue input_value_is_same _ _ _ _ p.fields q.fields;
    location = p.location ∙ sym q.location;
  }

type_is_same : (parts : List (Originated TypeDefinition)) (d : TypeDefinition) (a b : ExtendedType) → PartsSay d parts a → PartsSay d parts b → SameType a b
type_is_same parts (Scalar d) (typed.Scalar a) (typed.Scalar b) p q = scalar_is_same (Scalar d) parts a b p q
type_is_same parts (Object d) (typed.Object a) (typed.Object b) p q = object_is_same (Object d) parts a b p q
type_is_same parts (Interface d) (typed.Interface a) (typed.Interface b) p q = interface_is_same (Interface d) parts a b p q
type_is_same parts (Union d) (typed.Union a) (typed.Union b) p q = union_is_same (Union d) parts a b p q
type_is_same parts (Enum d) (typed.Enum a) (typed.Enum b) p q = enum_is_same (Enum d) parts a b p q
type_is_same parts (InputObject d) (typed.InputObject a) (typed.InputObject b) p q = input_object_is_same (InputObject d) parts a b p q
type_is_same parts (Scalar d) (typed.Scalar a) b p q = absurd q
type_is_same parts (Object d) (typed.Object a) b p q = absurd q
type_is_same parts (Interface d) (typed.Interface a) b p q = absurd q
type_is_same parts (Union d) (typed.Union a) b p q = absurd q
type_is_same parts (Enum d) (typed.Enum a) b p q = absurd q
type_is_same parts (InputObject d) (typed.InputObject a) b p q = absurd q
type_is_same parts d a b p q = absurd p

definition_is_same : (definitions : List Definition) (a b : Node typed_schema.SchemaDefinition) →
    SchemaDefinitionSays definitions a → SchemaDefinitionSays definitions b → SameSchemaDefinition a b
definition_is_same definitions a b p q = record {
  directives = components_are_same DirectiveSays SameDirective directive_is_same _ _ _ p.directives q.directives;
  query = p.query ∙ sym q.query;
  mutation = p.mutation ∙ sym q.mutation;
  subscription = p.subscription ∙ sym q.subscription;
  location = p.location ∙ sym q.location;
}

component_is_same : (a b : Component FieldDefinition) (name ty : List ℕ) (signatures : List (List ℕ × List ℕ × Bool)) → All HasNoDefault signatures →
    HasSignature a.node.value.value name signatures ty → HasSignature b.node.value.value name signatures ty →
    ComponentHasNoPlace a → ComponentHasNoPlace b → SameComponent SameField a b
component_is_same a b name ty signatures none p q at there =
    (at.origin ∙ sym there.origin, field_of_no_text_is_same a.node b.node name ty signatures none p q at.node there.node)

meta_fields_are_same : (a b : MetaFields) → MetaFieldsHaveNoPlace a → MetaFieldsHaveNoPlace b → SameMetaFields a b
meta_fields_are_same a b p q = record {
  typename = component_is_same a.typename b.typename _ _ [] (All-nil HasNoDefault) a.is_typename b.is_typename p.typename q.typename;
  schema = component_is_same a.schema b.schema _ _ [] (All-nil HasNoDefault) a.is_schema b.is_schema p.schema q.schema;
  type_by_name = component_is_same a.type_by_name b.type_by_name _ _ _
      (All-cons HasNoDefault (codes "name", codes "String!", false) [] refl (All-nil HasNoDefault)) a.is_type b.is_type p.type_by_name q.type_by_name;
}

pub schema_is_same : (trees : List Document) (a b : Schema) → SchemaSays trees a → SchemaSays trees b → SameSchema a b
schema_is_same trees a b p q =
    let definitions = definitions_in trees in
    record {
      schema_definition = definition_is_same definitions a.schema_definition b.schema_definition p.schema_definition q.schema_definition;
      directive_definitions =
          both_said (λ (d : DirectiveDefinition) (e : NameText × Node typed_directive.DirectiveDefinition). (e.0 ≡ d.name) × DirectiveDefinitionSays d e.1)
          (SameUnderName SameDirectiveDefinition) (λ t a b p q. (p.0 ∙ sym q.0, directive_definition_is_same t a.1 b.1 p.1 q.1))
          (directives_said definitions) _ _ p.directive_definitions q.directive_definitions;
      types =
          both_said (λ (d : TypeDefinition) (e : NameText × ExtendedType). (e.0 ≡ name_of d) × TypeSays definitions d e.1)
          (SameUnderName SameType) (λ t a b p q. (p.0 ∙ sym q.0, type_is_same _ t a.1 b.1 p.1 q.1))
          (types definitions) _ _ p.types_are q.types_are;
      meta_fields = meta_fields_are_same a.meta_fields b.meta_fields p.meta_fields q.meta_fields;
    }
