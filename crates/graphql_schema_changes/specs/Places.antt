-- Which types selections can be on, which can be given values, and which meet in a response. Specification: 2.4 Selection Sets, 2.8
-- Fragments, 2.9 Input Values.
use Rattle.std.specs.Prelude.{◌≡◌, Bool, true, Some, Ok, Any, Contains, IsTrue}
use Rattle.graphql_nodes.specs.Names.{NameText, SameName}
use Rattle.graphql_nodes.specs.declared.nodes.Node.{Node}
use Rattle.graphql_nodes.specs.declared.operation_types.OperationType.{OperationType}
use Rattle.graphql_documents.specs.Directives.{directive_definition}
use Rattle.graphql_documents.specs.Schemas.{IsInputObject, NamesKind, is_input_type, type_definition, type_field}
use Rattle.graphql_documents.specs.TypeReferences.{inner_named_type}
use Rattle.graphql_documents.specs.declared.documents.components.Component.{Component}
use Rattle.graphql_documents.specs.declared.documents.definitions.DirectiveDefinition.{DirectiveDefinition}
use Rattle.graphql_documents.specs.declared.documents.definitions.FieldDefinition.{FieldDefinition}
use Rattle.graphql_documents.specs.declared.documents.definitions.InputValueDefinition.{InputValueDefinition}
use Rattle.graphql_documents.specs.declared.documents.schemas.ExtendedType.{ExtendedType}
use Rattle.graphql_documents.specs.declared.documents.schemas.InputObjectType.{InputObjectType}
use Rattle.graphql_documents.specs.declared.documents.schemas.Schema.{Schema}
use Rattle.graphql_specification.specs.Fragments.{IsPossibleAt, NamesComposite}
use Rattle.graphql_specification.specs.Values.{is_custom_scalar}
use Rattle.graphql_document_building.specs.Trees.{root_name, type_below}
use Rattle.graphql_schema_changes.specs.Keeps.{IsExecutable}

-- the type of the argument or input field is among these, whatever its wrappers
abbrev pub IsOfInput : (NameText → Type 0) → InputValueDefinition → Type 0
IsOfInput Input d = Input (inner_named_type d.ty.value.value)

-- selections of valid documents are on these places, and values are given for these input types: from the roots down through fields and
-- conditions, and from arguments through input fields. A variable in an object of a custom scalar can be of any input type.
-- Specification: 5.3 Fields, 5.5.2.3 Fragment Spread Is Possible, 5.6 Values
pub record AreReached (schema : Schema) (Place Input : NameText → Type 0) : Type 0 where
  pub root : (kind : OperationType) (name : NameText) → root_name schema kind ≡ Some name → Place name
  pub below : (parent field : NameText) (d : Component FieldDefinition) → Place parent → type_field schema parent field ≡ Ok d →
      NamesComposite schema (type_below d) → Place (type_below d)
  pub under : (parent condition : NameText) → Place parent → NamesComposite schema condition → IsPossibleAt schema condition (Some parent) → Place condition
  pub argument : (parent field : NameText) (d : Component FieldDefinition) (a : Node InputValueDefinition) → Place parent → type_field schema parent field ≡ Ok d →
      Contains d.node.value.value.arguments.items a → IsOfInput Input a.value.value
  pub directive : (name : NameText) (d : Node DirectiveDefinition) (a : Node InputValueDefinition) → directive_definition schema name ≡ Some d →
      Any (IsExecutable schema) d.value.value.locations.items → Contains d.value.value.arguments.items a → IsOfInput Input a.value.value
  pub entry : (name : NameText) (d : Node InputObjectType) (field : NameText × Component InputValueDefinition) → Input name → IsInputObject schema name d →
      Contains d.value.value.fields.entries field → IsOfInput Input field.1.node.value.value
  pub variable : (scalar name : NameText) → Input scalar → NamesKind schema is_custom_scalar scalar → NamesKind schema is_input_type name → Input name
