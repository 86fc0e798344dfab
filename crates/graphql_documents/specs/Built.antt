-- Documents that were built against a schema: definitions are listed under their own names, and each set and field has the type and definition of its
-- place.
use Rattle.std.specs.Prelude.{All, ⊤, ◌≡◌, Ok, Contains, unwrap_or, Some}
use Rattle.graphql_nodes.specs.Names.{SameName, NameText}
use Rattle.graphql_documents.specs.Schemas.{own_name, fields_of, input_fields_of, NamesKind, type_field, is_output_type, root_operation}
use Rattle.graphql_documents.specs.Contents.{SameFieldDefinition}
use Rattle.graphql_documents.specs.TypeReferences.{inner_named_type}
use Rattle.graphql_documents.specs.Selections.{selections_of, SetWritten}
use Rattle.graphql_documents.specs.Executables.{operations_of}
use Rattle.graphql_documents.specs.declared.documents.schemas.ExtendedType.{ExtendedType}
use Rattle.graphql_documents.specs.declared.documents.schemas.ExtendedType.TheVariants.{Enum}
use Rattle.graphql_documents.specs.declared.documents.schemas.Schema.{Schema}
use Rattle.graphql_documents.specs.declared.documents.components.Component.{Component}
use Rattle.graphql_documents.specs.declared.documents.definitions.FieldDefinition.{FieldDefinition}
use Rattle.graphql_documents.specs.declared.documents.executables.Field.{Field}
use Rattle.graphql_nodes.specs.declared.nodes.Node.{Node}
use Rattle.graphql_documents.specs.declared.documents.executables.SelectionSet.{SelectionSet}
use Rattle.graphql_documents.specs.declared.documents.executables.InlineFragment.{InlineFragment}
use Rattle.graphql_documents.specs.declared.documents.components.ComponentName.{ComponentName}
use Rattle.graphql_documents.specs.declared.documents.executables.Operation.{Operation}
use Rattle.graphql_documents.specs.declared.documents.executables.ExecutableDocument.{ExecutableDocument}
use Rattle.graphql_documents.specs.declared.documents.executables.Selection.TheVariants as kind

-- the values of an enum are listed under their own names
abbrev pub EnumValuesStandUnderTheirNames : ExtendedType → Type 0
EnumValuesStandUnderTheirNames (Enum d) = All (λ entry. SameName entry.0 entry.1.node.value.value.value) d.value.value.values.entries
EnumValuesStandUnderTheirNames _ = ⊤

-- a type and its parts are listed under their own names
pub record TypeStandsUnderItsName (key : NameText) (definition : ExtendedType) : Type 0 where
  pub itself : SameName key (own_name definition)
  pub fields : All (λ entry. SameName entry.0 entry.1.node.value.value.name) (fields_of definition)
  pub input_fields : All (λ entry. SameName entry.0 entry.1.node.value.value.name) (input_fields_of definition)
  pub enum_values : EnumValuesStandUnderTheirNames definition

-- the definitions of the schema are listed under their own names
pub record StandsUnderOwnNames (schema : Schema) : Type 0 where
  pub types : All (λ entry. TypeStandsUnderItsName entry.0 entry.1) schema.types.entries
  pub directives : All (λ entry. SameName entry.0 entry.1.value.value.name) schema.directive_definitions.entries

-- the field has the definition that the type gives it, by its contents, of an output type, and its set is of
-- that type
pub record FieldIsBuilt (schema : Schema) (parent : NameText) (f : Field) : Type 0 where
  pub definition : Component FieldDefinition
  pub is_of_parent : type_field schema parent f.name ≡ Ok definition
  pub same : SameFieldDefinition f.definition.value.value definition.node.value.value
  pub output : NamesKind schema is_output_type (inner_named_type f.definition.value.value.ty)
  pub set_type : SameName f.selection_set.ty (inner_named_type f.definition.value.value.ty)

-- what is in the set is built for its type
pub record SetIsBuilt (schema : Schema) (set : SelectionSet) : Type 0 where
  pub fields : (f : Node Field) → Contains (selections_of set) (kind.Field f) → FieldIsBuilt schema set.ty f.value.value
  pub inline_fragments : (i : Node InlineFragment) → Contains (selections_of set) (kind.InlineFragment i) →
      SameName i.value.value.selection_set.ty (unwrap_or i.value.value.type_condition set.ty)

-- so is each set that is written in it
abbrev pub SetsAreBuilt : Schema → SelectionSet → Type 0
SetsAreBuilt schema set = (inner : SelectionSet) → SetWritten set inner → SetIsBuilt schema inner

-- an operation is on the root type that the schema names, and is built for it
pub record OperationIsBuilt (schema : Schema) (o : Operation) : Type 0 where
  pub root : ComponentName
  pub named : root_operation schema.schema_definition.value.value o.operation_type ≡ Some root
  pub root_type : SameName o.selection_set.ty root.name
  pub sets : SetsAreBuilt schema o.selection_set

-- the document was built against the schema
pub record IsBuilt (schema : Schema) (document : ExecutableDocument) : Type 0 where
  pub names : StandsUnderOwnNames schema
  pub operations : All (λ o. OperationIsBuilt schema o.value.value) (operations_of document)
  pub fragments : All (λ entry. SameName entry.0 entry.1.value.value.name × SetsAreBuilt schema entry.1.value.value.selection_set) document.fragments.entries
