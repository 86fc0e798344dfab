-- The types of arguments and input fields in a schema that was read: they are input types, as its rules ask. Specification: 3.6.1 Field Arguments, 3.10
-- Input Objects, 3.13 Directives.
use Rattle.std.specs.Prelude.{◌≡◌, Some, Ok, All, Contains}
use Rattle.graphql_nodes.specs.Names.{NameText}
use Rattle.graphql_nodes.specs.declared.nodes.Node.{Node}
use Rattle.graphql_nodes.specs.declared.operation_types.OperationType.{OperationType}
use Rattle.graphql_documents.specs.Directives.{directive_definition}
use Rattle.graphql_documents.specs.Schemas.{IsInputObject, NamesKind, is_input_type, type_field}
use Rattle.graphql_documents.specs.TypeReferences.{inner_named_type}
use Rattle.graphql_documents.specs.declared.documents.components.Component.{Component}
use Rattle.graphql_documents.specs.declared.documents.definitions.DirectiveDefinition.{DirectiveDefinition}
use Rattle.graphql_documents.specs.declared.documents.definitions.FieldDefinition.{FieldDefinition}
use Rattle.graphql_documents.specs.declared.documents.definitions.InputValueDefinition.{InputValueDefinition}
use Rattle.graphql_documents.specs.declared.documents.schemas.InputObjectType.{InputObjectType}
use Rattle.graphql_documents.specs.declared.documents.schemas.Schema.{Schema}
use Rattle.graphql_document_building.specs.Trees.{root_name}
use Rattle.graphql_specification.specs.Fragments.{NamesComposite}

-- the type of the argument or input field, whatever its wrappers, is an input type
abbrev pub IsOfInputType : Schema → InputValueDefinition → Type 0
IsOfInputType schema d = NamesKind schema is_input_type (inner_named_type d.ty.value.value)

-- so it is of each field of an input object
abbrev pub HasInputFieldTypes : Schema → Type 0
HasInputFieldTypes schema =
    (name : NameText) (d : Node InputObjectType) (field : NameText × Component InputValueDefinition) →
    IsInputObject schema name d → Contains d.value.value.fields.entries field → IsOfInputType schema field.1.node.value.value

-- and of each argument of a field and of a directive
pub record HasInputTypes (schema : Schema) : Type 0 where
  pub input_fields : HasInputFieldTypes schema
  pub field_arguments : (parent field : NameText) (d : Component FieldDefinition) (a : Node InputValueDefinition) →
      type_field schema parent field ≡ Ok d → Contains d.node.value.value.arguments.items a → IsOfInputType schema a.value.value
  pub directive_arguments : (name : NameText) (d : Node DirectiveDefinition) (a : Node InputValueDefinition) →
      directive_definition schema name ≡ Some d → Contains d.value.value.arguments.items a → IsOfInputType schema a.value.value

-- the root type of each kind of operation is composite. Specification: 3.3.1 Root Operation Types
abbrev pub HasCompositeRoots : Schema → Type 0
HasCompositeRoots schema = (kind : OperationType) (root : NameText) → root_name schema kind ≡ Some root → NamesComposite schema root

-- so is each argument of `__type`, which no text defines. Specification: 4.2 Schema Introspection
abbrev pub HasMetaArgumentTypes : Schema → Type 0
HasMetaArgumentTypes schema = All (λ a. IsOfInputType schema a.value.value) schema.meta_fields.type_by_name.node.value.value.arguments.items
