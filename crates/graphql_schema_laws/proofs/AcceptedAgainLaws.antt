-- A schema that holds and has its built-in scalars holds once it is retained, and defaults that hold then hold again.
use Rattle.std.proofs.Common.{◌≡◌, inl, inr, true, List, [], ◌++◌, map, refl, sym, ap, subst, ◌∙◌, Contains}
use Rattle.std.specs.Prelude.{All, flat_map}
use Rattle.std.specs.Map.{lookup}
use Rattle.std.proofs.lemmas.List.Elements.{All-contains, All-weaker, Contains-append_left}
use Rattle.graphql_specification.specs.DefaultValues.{DefaultValueHolds, DefaultValuesHold, inputs_of, inputs_of_type}
use Rattle.graphql_nodes.specs.Names.{IsFreeName, NameText, same_name}
use Rattle.graphql_specification.specs.Implementations.{FieldList}
use Rattle.graphql_specification.specs.InputValueDefinitions.{ArgumentDefinitionsHold, DirectivesHoldAt, InputValueDefinitionHolds, NamesType}
use Rattle.graphql_specification.specs.DirectiveDefinitions.{DirectiveDefinitionHolds}
use Rattle.graphql_specification.specs.Types.{EnumHolds, EnumValueHolds, InputObjectHolds, InterfaceHolds, ObjectHolds, ScalarHolds, TypeHolds, UnionHolds}
use Rattle.graphql_specification.specs.FieldDefinitions.{FieldDefinitionHolds, FieldDefinitionsHold}
use Rattle.graphql_specification.specs.SchemaDefinitions.{SchemaDefinitionHolds}
use Rattle.graphql_specification.specs.Schemas.{SchemaHolds}
use Rattle.graphql_documents.specs.Schemas.{NamesKind, is_input_type, is_object_type, is_output_type, roots_of, type_definition}
use Rattle.graphql_specification.specs.BuiltInScalars.{SchemaRetainsUsedBuiltInScalars, argument_types, field_types, types_referred_by, uses_type}
use Rattle.graphql_documents.specs.TypeReferences.{inner_named_type}
use Rattle.graphql_documents.specs.declared.documents.components.Component.{Component}
use Rattle.graphql_documents.specs.declared.documents.components.ComponentName.{ComponentName}
use Rattle.graphql_documents.specs.declared.documents.definitions.DirectiveDefinition.{DirectiveDefinition}
use Rattle.graphql_nodes.specs.declared.directive_locations.DirectiveLocation.{DirectiveLocation}
use Rattle.graphql_nodes.specs.declared.directive_locations.DirectiveLocation.TheVariants as at
use Rattle.graphql_documents.specs.declared.documents.definitions.EnumValueDefinition.{EnumValueDefinition}
use Rattle.graphql_documents.specs.declared.documents.definitions.FieldDefinition.{FieldDefinition}
use Rattle.graphql_documents.specs.declared.documents.definitions.InputValueDefinition.{InputValueDefinition}
use Rattle.graphql_nodes.specs.declared.operation_types.OperationType.{OperationType}
use Rattle.graphql_documents.specs.declared.documents.directives.Directive.{Directive}
use Rattle.graphql_documents.specs.declared.documents.schemas.EnumType.{EnumType}
use Rattle.graphql_documents.specs.declared.documents.schemas.ExtendedType.{ExtendedType}
use Rattle.graphql_documents.specs.declared.documents.schemas.ExtendedType.TheVariants.{Scalar, Object, Interface, Union, Enum, InputObject}
use Rattle.graphql_documents.specs.declared.documents.schemas.InputObjectType.{InputObjectType}
use Rattle.graphql_documents.specs.declared.documents.schemas.InterfaceType.{InterfaceType}
use Rattle.graphql_documents.specs.declared.documents.schemas.ObjectType.{ObjectType}
use Rattle.graphql_documents.specs.declared.documents.schemas.ScalarType.{ScalarType}
use Rattle.graphql_documents.specs.declared.documents.schemas.Schema.{Schema}
use Rattle.graphql_documents.specs.declared.documents.schemas.SchemaDefinition.{SchemaDefinition}
use Rattle.graphql_documents.specs.declared.documents.schemas.UnionType.{UnionType}
use Rattle.graphql_nodes.specs.declared.nodes.Node.{Node}
use Rattle.graphql_documents.proofs.ListLemmas.{each_standing, stands_behind, stands_first, stands_flat, stands_mapped}
use Rattle.graphql_schema_laws.specs.BuiltInNames.{BuiltInNamesAreOfScalars, HasItsScalars}
use Rattle.graphql_schema_laws.proofs.CarriedValueLemmas.{carried_value}
use Rattle.graphql_schema_laws.proofs.FiniteValueLaws.{Field}
use Rattle.graphql_schema_laws.proofs.KeptApplicationLemmas.{applications_after}
use Rattle.graphql_schema_laws.proofs.KeptCycleLemmas.{no_directive_cycle_after}
use Rattle.graphql_schema_laws.proofs.KeptImplementationLemmas.{implementations_after}
use Rattle.graphql_schema_laws.proofs.KeptTypeLemmas.{kept_stood, same_object, types_kept, used_by_directive, used_by_type, used_type}
use Rattle.graphql_schema_laws.proofs.RetainedInputLaws.{no_cycle_after}
use Rattle.graphql_schema_laws.proofs.RetainedLaws.{Entry, retained_again}

module _ (schema retained : Schema) (scalars : BuiltInNamesAreOfScalars schema) (has : HasItsScalars schema) (is : SchemaRetainsUsedBuiltInScalars schema retained) where
  directives_after : (location : DirectiveLocation) (directives : List (Node Directive)) → DirectivesHoldAt schema location directives → DirectivesHoldAt retained location directives
  directives_after = applications_after schema retained scalars has is

  abbrev Used : NameText → Type 0
  Used name = uses_type schema name.text ≡ true

  input_after : (location : DirectiveLocation) (d : InputValueDefinition) → Used (inner_named_type d.ty.value.value) → InputValueDefinitionHolds schema location d →
      InputValueDefinitionHolds retained location d
  input_after location d used holds = record {
    name = holds.name;
    directives = directives_after location d.directives.items holds.directives;
    ty = used_type schema retained scalars has is is_input_type (inner_named_type d.ty.value.value) used holds.ty;
  }

  arguments_after : (location : DirectiveLocation) (arguments : List (Node InputValueDefinition)) → ((name : NameText) → Contains (argument_types arguments) name → Used name) →
      ArgumentDefinitionsHold schema location arguments → ArgumentDefinitionsHold retained location arguments
  arguments_after location arguments used hold = record {
    each =
        each_standing (λ (d : Node InputValueDefinition). InputValueDefinitionHolds retained location d.value.value) arguments
        (λ d stands.
        input_after location d.value.value
        (used (inner_named_type d.value.value.ty.value.value) (stands_mapped (λ (d : Node InputValueDefinition). inner_named_type d.value.value.ty.value.value) arguments d stands))
        (All-contains (λ (d : Node InputValueDefinition). InputValueDefinitionHolds schema location d.value.value) arguments d hold.each stands));
    distinct = hold.distinct;
  }

  abbrev FieldEntry : Type 0
  FieldEntry = NameText × Component FieldDefinition

  field_after : (d : FieldDefinition) → ((name : NameText) → Contains (field_types d) name → Used name) → FieldDefinitionHolds schema d → FieldDefinitionHolds retained d
  field_after d used holds = record {
    name = holds.name;
    directives = directives_after at.FieldDefinition d.directives.items holds.directives;
    arguments =
        arguments_after at.ArgumentDefinition d.arguments.items
        (λ name among. used name (stands_behind (inner_named_type d.ty) (argument_types d.arguments.items) name among)) holds.arguments;
  }

  fields_after : (fields : FieldList) → ((name : NameText) → Contains (flat_map (λ (entry : FieldEntry). field_types entry.1.node.value.value) fields) name → Used name) →
      FieldDefinitionsHold schema fields → FieldDefinitionsHold retained fields
  fields_after fields used hold =
      each_standing (λ (entry : FieldEntry). FieldDefinitionHolds retained entry.1.node.value.value × NamesType retained is_output_type (inner_named_type entry.1.node.value.value.ty)) fields
      (λ entry stands.
      let d = entry.1.node.value.value in
      let holds = All-contains (λ (entry : FieldEntry). FieldDefinitionHolds schema entry.1.node.value.value × NamesType schema is_output_type (inner_named_type entry.1.node.value.value.ty)) fields entry hold stands in
      let of_field : (name : NameText) → Contains (field_types d) name → Used name =
      λ name among. used name (stands_flat (λ (entry : FieldEntry). field_types entry.1.node.value.value) fields entry name stands among) in (
        field_after d of_field holds.0,
        used_type schema retained scalars has is is_output_type (inner_named_type d.ty) (of_field (inner_named_type d.ty) (stands_first (inner_named_type d.ty) (argument_types d.arguments.items))) holds.1,
      ))

  -- the types of the fields of an object or interface of the schema are used
  module _ (key : NameText) (t : ExtendedType) (stands : Contains schema.types.entries (key, t)) where
    used_of : (name : NameText) → Contains (types_referred_by t) name → Used name
    used_of name = used_by_type schema name (key, t) stands

  scalar_after : (d : Node ScalarType) → ScalarHolds schema d → ScalarHolds retained d
  scalar_after d (inl built_in) = inl built_in
  scalar_after d (inr holds) = inr (directives_after at.Scalar (map (λ c. c.node) d.value.value.directives.items) holds)

  union_after : (d : Node UnionType) → UnionHolds schema d → UnionHolds retained d
  union_after d holds = record {
    directives = directives_after at.Union (map (λ c. c.node) d.value.value.directives.items) holds.directives;
    members =
        All-weaker (λ (member : ComponentName). NamesKind schema is_object_type member.name) (λ (member : ComponentName). NamesKind retained is_object_type member.name)
        (λ member object. same_object schema retained scalars has is member.name object) d.value.value.members.keys holds.members;
    is_not_empty = holds.is_not_empty;
  }

  enum_after : (d : Node EnumType) → EnumHolds schema d → EnumHolds retained d
  enum_after d holds = record {
    directives = directives_after at.Enum (map (λ c. c.node) d.value.value.directives.items) holds.directives;
    values =
        All-weaker (λ (entry : NameText × Component EnumValueDefinition). EnumValueHolds schema entry.1.node.value.value)
        (λ (entry : NameText × Component EnumValueDefinition). EnumValueHolds retained entry.1.node.value.value)
        (λ entry value. record { name = value.name; directives = directives_after at.EnumValue entry.1.node.value.value.directives.items value.directives })
        d.value.value.values.entries holds.values;
    is_not_empty = holds.is_not_empty;
  }

  object_after : (key : NameText) (d : Node ObjectType) → Contains schema.types.entries (key, Object d) → ObjectHolds schema d → ObjectHolds retained d
  object_after key d stands holds = record {
    directives = directives_after at.Object (map (λ c. c.node) d.value.value.directives.items) holds.directives;
    fields =
        fields_after d.value.value.fields.entries
        (λ name among. used_of key (Object d) stands name (Contains-append_left (flat_map (λ (entry : FieldEntry). field_types entry.1.node.value.value) d.value.value.fields.entries) [] name among))
        holds.fields;
    is_not_empty = holds.is_not_empty;
    implementations = implementations_after schema retained scalars has is d.value.value.fields.entries d.value.value.implements_interfaces.keys holds.implementations;
  }

  interface_after : (key : NameText) (d : Node InterfaceType) → Contains schema.types.entries (key, Interface d) → InterfaceHolds schema d → InterfaceHolds retained d
  interface_after key d stands holds = record {
    directives = directives_after at.Interface (map (λ c. c.node) d.value.value.directives.items) holds.directives;
    not_itself = holds.not_itself;
    fields =
        fields_after d.value.value.fields.entries
        (λ name among. used_of key (Interface d) stands name (Contains-append_left (flat_map (λ (entry : FieldEntry). field_types entry.1.node.value.value) d.value.value.fields.entries) [] name among))
        holds.fields;
    is_not_empty = holds.is_not_empty;
    implementations = implementations_after schema retained scalars has is d.value.value.fields.entries d.value.value.implements_interfaces.keys holds.implementations;
  }

  input_object_after : (key : NameText) (d : Node InputObjectType) → Contains schema.types.entries (key, InputObject d) → InputObjectHolds schema d → InputObjectHolds retained d
  input_object_after key d stands holds = record {
    directives = directives_after at.InputObject (map (λ c. c.node) d.value.value.directives.items) holds.directives;
    no_cycle = no_cycle_after schema retained is d (key, stands) holds.no_cycle;
    fields =
        each_standing (λ (entry : Field). InputValueDefinitionHolds retained at.InputFieldDefinition entry.1.node.value.value) d.value.value.fields.entries
        (λ entry within.
        input_after at.InputFieldDefinition entry.1.node.value.value
        (used_of key (InputObject d) stands (inner_named_type entry.1.node.value.value.ty.value.value)
        (stands_mapped (λ (entry : Field). inner_named_type entry.1.node.value.value.ty.value.value) d.value.value.fields.entries entry within))
        (All-contains (λ (entry : Field). InputValueDefinitionHolds schema at.InputFieldDefinition entry.1.node.value.value) d.value.value.fields.entries entry holds.fields within));
    is_not_empty = holds.is_not_empty;
  }

  type_after : (key : NameText) (t : ExtendedType) → Contains schema.types.entries (key, t) → TypeHolds schema t → TypeHolds retained t
  type_after key (Scalar d) stands holds = scalar_after d holds
  type_after key (Object d) stands holds = object_after key d stands holds
  type_after key (Interface d) stands holds = interface_after key d stands holds
  type_after key (Union d) stands holds = union_after d holds
  type_after key (Enum d) stands holds = enum_after d holds
  type_after key (InputObject d) stands holds = input_object_after key d stands holds

  directive_after : (entry : NameText × Node DirectiveDefinition) → Contains schema.directive_definitions.entries entry → DirectiveDefinitionHolds schema entry.1 →
      DirectiveDefinitionHolds retained entry.1
  directive_after entry stands holds = record {
    name = holds.name;
    arguments =
        arguments_after at.ArgumentDefinition entry.1.value.value.arguments.items (λ name among. used_by_directive schema name entry stands among) holds.arguments;
    no_cycle = no_directive_cycle_after schema retained scalars has is entry.0 entry.1 stands holds.no_cycle;
  }

  definition_after : (d : SchemaDefinition) → SchemaDefinitionHolds schema d → SchemaDefinitionHolds retained d
  definition_after d holds = record {
    has_query = holds.has_query;
    roots = record {
      objects =
          All-weaker (λ (root : OperationType × ComponentName). NamesKind schema is_object_type root.1.name) (λ (root : OperationType × ComponentName). NamesKind retained is_object_type root.1.name)
          (λ root object. same_object schema retained scalars has is root.1.name object) (roots_of d) holds.roots.objects;
      distinct = holds.roots.distinct;
    };
    directives = directives_after at.Schema (map (λ c. c.node) d.directives.items) holds.directives;
  }

  entry_after : SchemaHolds schema → (entry : Entry) → Contains schema.types.entries entry → IsFreeName entry.0 × TypeHolds retained entry.1
  entry_after holds entry stands =
      let one = All-contains (λ (entry : Entry). IsFreeName entry.0 × TypeHolds schema entry.1) schema.types.entries entry holds.types stands in
      (one.0, type_after entry.0 entry.1 stands one.1)

  pub holds_after : SchemaHolds schema → SchemaHolds retained
  holds_after holds = record {
    definition = subst (λ (d : Node SchemaDefinition). SchemaDefinitionHolds retained d.value.value) (sym is.definition) (definition_after schema.schema_definition.value.value holds.definition);
    directives =
        subst (λ m. All (λ (entry : NameText × Node DirectiveDefinition). DirectiveDefinitionHolds retained entry.1) m.entries) (sym is.directives)
        (each_standing (λ (entry : NameText × Node DirectiveDefinition). DirectiveDefinitionHolds retained entry.1) schema.directive_definitions.entries
        (λ entry stands.
        directive_after entry stands (All-contains (λ (entry : NameText × Node DirectiveDefinition). DirectiveDefinitionHolds schema entry.1) schema.directive_definitions.entries entry holds.directives stands)));
    types =
        each_standing (λ (entry : Entry). IsFreeName entry.0 × TypeHolds retained entry.1) retained.types.entries
        (λ entry stands. entry_after holds entry (stood_there entry stands));
  } where
    stood_there : (entry : Entry) → Contains retained.types.entries entry → Contains schema.types.entries entry
    stood_there entry stands = kept_stood schema entry (subst (λ l. Contains l entry) (types_kept schema retained scalars has is) stands)

-- defaults that hold in a retained schema hold where it is retained once more
module _ (schema retained again : Schema) (scalars : BuiltInNamesAreOfScalars schema) (is : SchemaRetainsUsedBuiltInScalars schema retained) (once_more : SchemaRetainsUsedBuiltInScalars retained again) where
  same_entries : again.types.entries ≡ retained.types.entries
  same_entries = retained_again schema retained scalars is again.types.entries once_more.types

  same_types : (name : NameText) → type_definition again name ≡ type_definition retained name
  same_types name = ap (lookup (same_name name)) same_entries

  same_inputs : inputs_of again ≡ inputs_of retained
  same_inputs =
      ap (λ m. flat_map (λ (entry : NameText × Node DirectiveDefinition). entry.1.value.value.arguments.items) m.entries ++ flat_map (λ (entry : Entry). inputs_of_type entry.1) again.types.entries)
      once_more.directives ∙
      ap (λ l. flat_map (λ (entry : NameText × Node DirectiveDefinition). entry.1.value.value.arguments.items) retained.directive_definitions.entries ++ flat_map (λ (entry : Entry). inputs_of_type entry.1) l)
      same_entries

  default_again : (d : InputValueDefinition) → DefaultValueHolds retained d → DefaultValueHolds again d
  default_again d holds (t, found, input) value given =
      carried_value retained again [] (λ name. name ≡ name) (λ name any. same_types name) (λ name d field any found within. refl)
      (holds (t, sym (same_types (inner_named_type d.ty.value.value)) ∙ found, input) value given) refl

  pub defaults_again : DefaultValuesHold retained → DefaultValuesHold again
  defaults_again hold =
      subst (λ l. All (λ (d : Node InputValueDefinition). DefaultValueHolds again d.value.value) l) (sym same_inputs)
      (All-weaker (λ (d : Node InputValueDefinition). DefaultValueHolds retained d.value.value) (λ (d : Node InputValueDefinition). DefaultValueHolds again d.value.value)
      (λ d holds. default_again d.value.value holds) (inputs_of retained) hold)
