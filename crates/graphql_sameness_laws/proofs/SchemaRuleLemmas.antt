-- Schemas that are the same hold as well. Specification: 3 Type System.
use Rattle.std.proofs.Common.{◌≡◌, ◌∙◌, ◌++◌, inl, inr, List, [], map, refl, sym, ap, ap₂, subst, subst₂}
use Rattle.std.specs.Prelude.{◌≢◌, All, IsSome}
use Rattle.std.proofs.lemmas.List.Elements.{All-weaker}
use Rattle.graphql_nodes.specs.Names.{AreDistinct, IsFreeName}
use Rattle.graphql_nodes.specs.declared.directive_locations.DirectiveLocation.TheVariants as allowed_at
use Rattle.graphql_nodes.specs.declared.nodes.Node.{Node}
use Rattle.graphql_nodes.specs.declared.operation_types.OperationType.{OperationType}
use Rattle.graphql_nodes.specs.declared.operation_types.OperationType.TheVariants.{Query, Mutation, Subscription}
use Rattle.graphql_documents.specs.Schemas.{NamesKind, is_object_type, rooted, roots_of}
use Rattle.graphql_documents.specs.declared.documents.components.ComponentName.{ComponentName}
use Rattle.graphql_documents.specs.declared.documents.definitions.DirectiveDefinition.{DirectiveDefinition}
use Rattle.graphql_documents.specs.declared.documents.schemas.EnumType.{EnumType}
use Rattle.graphql_documents.specs.declared.documents.schemas.ExtendedType.{ExtendedType}
use Rattle.graphql_documents.specs.declared.documents.schemas.ExtendedType.TheVariants.{Scalar, Object, Interface, Union, Enum, InputObject}
use Rattle.graphql_documents.specs.declared.documents.schemas.InputObjectType.{InputObjectType}
use Rattle.graphql_documents.specs.declared.documents.schemas.InterfaceType.{InterfaceType}
use Rattle.graphql_documents.specs.declared.documents.schemas.ObjectType.{ObjectType}
use Rattle.graphql_documents.specs.declared.documents.schemas.ScalarType.{ScalarType}
use Rattle.graphql_documents.specs.declared.documents.schemas.Schema.{Schema}
use Rattle.graphql_documents.specs.declared.documents.schemas.SchemaDefinition.{SchemaDefinition}
use Rattle.graphql_documents.specs.declared.documents.schemas.UnionType.{UnionType}
use Rattle.graphql_specification.specs.DirectiveDefinitions.{DirectiveDefinitionHolds}
use Rattle.graphql_specification.specs.Implementations.{DoesNotListItself, ImplementationsHold}
use Rattle.graphql_specification.specs.InputValueDefinitions.{InputValueDefinitionHolds}
use Rattle.graphql_specification.specs.SchemaDefinitions.{RootsHold, SchemaDefinitionHolds}
use Rattle.graphql_specification.specs.Schemas.{SchemaHolds}
use Rattle.graphql_specification.specs.Types.{EnumHolds, EnumValueHolds, InputObjectHolds, InterfaceHolds, ObjectHolds, ScalarHolds, TypeHolds, UnionHolds}
use Rattle.graphql_document_building.specs.SameDocuments.{SameUnderName}
use Rattle.graphql_document_building.specs.SameLeaves.{SameDirectiveDefinition, SameEnumValue, SameField, SameInputValue}
use Rattle.graphql_building_laws.specs.SameSchemas.{SameComponent, SameEnum, SameInputObject, SameInterface, SameObject, SameScalar, SameSchema, SameSchemaDefinition, SameType, SameUnion}
use Rattle.graphql_sameness_laws.proofs.DefinitionCycleLemmas.{directive_without_cycle, input_object_without_cycle}
use Rattle.graphql_sameness_laws.proofs.ImplementationLemmas.{implementations_too}
use Rattle.graphql_sameness_laws.proofs.InputDefinitionLemmas.{argument_definitions_too, component_directives_too, directives_at_too, field_definitions_too, input_value_too}
use Rattle.graphql_sameness_laws.proofs.SchemaLookupLemmas.{names_kind_too}
use Rattle.graphql_sameness_laws.proofs.SchemaSamenessLemmas.{enum_back, input_object_back, interface_back, object_back}
use Rattle.graphql_sameness_laws.proofs.TypeKindLemmas.{both_built_in, both_object_type}
use Rattle.graphql_sameness_laws.proofs.ZipLemmas.{zip_all, zip_empty}

one_roots : (d e : Node SchemaDefinition) → SameSchemaDefinition d e → roots_of d.value.value ≡ roots_of e.value.value
one_roots d e same =
    ap₂ ◌++◌ (ap (rooted Query) same.query) (ap₂ ◌++◌ (ap (rooted Mutation) same.mutation) (ap (rooted Subscription) same.subscription))

module _ (a b : Schema) (schemas : SameSchema a b) where
  roots_too : (d e : Node SchemaDefinition) → SameSchemaDefinition d e → RootsHold a d.value.value → RootsHold b e.value.value
  roots_too d e same h = record {
    objects = subst (All (λ (root : OperationType × ComponentName). NamesKind b is_object_type root.1.name)) (one_roots d e same)
        (All-weaker (λ (root : OperationType × ComponentName). NamesKind a is_object_type root.1.name) (λ root. NamesKind b is_object_type root.1.name)
        (λ root is. names_kind_too a b schemas is_object_type both_object_type root.1.name root.1.name refl is) (roots_of d.value.value) h.objects);
    distinct = subst (λ roots. AreDistinct (map (λ (root : OperationType × ComponentName). root.1.name) roots)) (one_roots d e same) h.distinct;
  }

  schema_definition_too : (d e : Node SchemaDefinition) → SameSchemaDefinition d e → SchemaDefinitionHolds a d.value.value → SchemaDefinitionHolds b e.value.value
  schema_definition_too d e same h = record {
    has_query = subst IsSome same.query h.has_query;
    roots = roots_too d e same h.roots;
    directives = component_directives_too a b schemas allowed_at.Schema _ _ same.directives h.directives;
  }

  directive_definition_too : (d e : Node DirectiveDefinition) → SameDirectiveDefinition d e → DirectiveDefinitionHolds a d → DirectiveDefinitionHolds b e
  directive_definition_too d e same h = record {
    name = subst IsFreeName same.name h.name;
    arguments = argument_definitions_too a b schemas allowed_at.ArgumentDefinition _ _ same.arguments h.arguments;
    no_cycle = directive_without_cycle a b schemas d e same h.no_cycle;
  }

  scalar_too : (d e : Node ScalarType) → SameScalar d e → ScalarHolds a d → ScalarHolds b e
  scalar_too d e same h = elim h [
    | inl built_in ↦ inl (sym (both_built_in (Scalar d) (Scalar e) same) ∙ built_in)
    | inr directives ↦ inr (component_directives_too a b schemas allowed_at.Scalar _ _ same.directives directives)
  ]

  object_too : (d e : Node ObjectType) → SameObject d e → ObjectHolds a d → ObjectHolds b e
  object_too d e same h = record {
    directives = component_directives_too a b schemas allowed_at.Object _ _ same.directives h.directives;
    fields = field_definitions_too a b schemas _ _ same.fields h.fields;
    is_not_empty = λ none. h.is_not_empty (zip_empty (SameUnderName (SameComponent SameField)) _ _ (object_back d e same).fields none);
    implementations = subst (ImplementationsHold b e.value.value.fields.entries) same.implements_interfaces
        (implementations_too a b schemas _ _ same.fields d.value.value.implements_interfaces.keys h.implementations);
  }

  interface_too : (d e : Node InterfaceType) → SameInterface d e → InterfaceHolds a d → InterfaceHolds b e
  interface_too d e same h = record {
    directives = component_directives_too a b schemas allowed_at.Interface _ _ same.directives h.directives;
    not_itself = subst₂ DoesNotListItself same.name same.implements_interfaces h.not_itself;
    fields = field_definitions_too a b schemas _ _ same.fields h.fields;
    is_not_empty = λ none. h.is_not_empty (zip_empty (SameUnderName (SameComponent SameField)) _ _ (interface_back d e same).fields none);
    implementations = subst (ImplementationsHold b e.value.value.fields.entries) same.implements_interfaces
        (implementations_too a b schemas _ _ same.fields d.value.value.implements_interfaces.keys h.implementations);
  }

  union_too : (d e : Node UnionType) → SameUnion d e → UnionHolds a d → UnionHolds b e
  union_too d e same h = record {
    directives = component_directives_too a b schemas allowed_at.Union _ _ same.directives h.directives;
    members = subst (All (λ (member : ComponentName). NamesKind b is_object_type member.name)) same.members
        (All-weaker (λ (member : ComponentName). NamesKind a is_object_type member.name) (λ member. NamesKind b is_object_type member.name)
        (λ member is. names_kind_too a b schemas is_object_type both_object_type member.name member.name refl is) d.value.value.members.keys h.members);
    is_not_empty = subst (λ (keys : List ComponentName). keys ≢ []) same.members h.is_not_empty;
  }

  enum_too : (d e : Node EnumType) → SameEnum d e → EnumHolds a d → EnumHolds b e
  enum_too d e same h = record {
    directives = component_directives_too a b schemas allowed_at.Enum _ _ same.directives h.directives;
    values = zip_all (SameUnderName (SameComponent SameEnumValue)) (λ x. EnumValueHolds a x.1.node.value.value) (λ y. EnumValueHolds b y.1.node.value.value)
        (λ x y p value. record {
          name = subst IsFreeName p.1.1.value value.name;
          directives = directives_at_too a b schemas allowed_at.EnumValue _ _ p.1.1.directives value.directives;
        }) d.value.value.values.entries e.value.value.values.entries same.values h.values;
    is_not_empty = λ none. h.is_not_empty (zip_empty (SameUnderName (SameComponent SameEnumValue)) _ _ (enum_back d e same).values none);
  }

  input_object_too : (d e : Node InputObjectType) → SameInputObject d e → InputObjectHolds a d → InputObjectHolds b e
  input_object_too d e same h = record {
    directives = component_directives_too a b schemas allowed_at.InputObject _ _ same.directives h.directives;
    no_cycle = input_object_without_cycle a b schemas d e same h.no_cycle;
    fields = zip_all (SameUnderName (SameComponent SameInputValue))
        (λ x. InputValueDefinitionHolds a allowed_at.InputFieldDefinition x.1.node.value.value)
        (λ y. InputValueDefinitionHolds b allowed_at.InputFieldDefinition y.1.node.value.value)
        (λ x y p field. input_value_too a b schemas allowed_at.InputFieldDefinition x.1.node y.1.node p.1.1 field) _ _ same.fields h.fields;
    is_not_empty = λ none. h.is_not_empty (zip_empty (SameUnderName (SameComponent SameInputValue)) _ _ (input_object_back d e same).fields none);
  }

  type_holds_too : (x y : ExtendedType) → SameType x y → TypeHolds a x → TypeHolds b y
  type_holds_too (Scalar d) (Scalar e) same h = scalar_too d e same h
  type_holds_too (Object d) (Object e) same h = object_too d e same h
  type_holds_too (Interface d) (Interface e) same h = interface_too d e same h
  type_holds_too (Union d) (Union e) same h = union_too d e same h
  type_holds_too (Enum d) (Enum e) same h = enum_too d e same h
  type_holds_too (InputObject d) (InputObject e) same h = input_object_too d e same h
  type_holds_too _ _ same h = absurd same

  pub schema_holds_too : SchemaHolds a → SchemaHolds b
  schema_holds_too h = record {
    definition = schema_definition_too a.schema_definition b.schema_definition schemas.schema_definition h.definition;
    directives = zip_all (SameUnderName SameDirectiveDefinition) (λ x. DirectiveDefinitionHolds a x.1) (λ y. DirectiveDefinitionHolds b y.1)
        (λ x y p definition. directive_definition_too x.1 y.1 p.1 definition) _ _ schemas.directive_definitions h.directives;
    types = zip_all (SameUnderName SameType) (λ x. IsFreeName x.0 × TypeHolds a x.1) (λ y. IsFreeName y.0 × TypeHolds b y.1)
        (λ x y p holds. (subst IsFreeName p.0 holds.0, type_holds_too x.1 y.1 p.1 holds.1)) _ _ schemas.types h.types;
  }
