-- The names that a schema defines. Specification: 3 Type System.
use Rattle.std.specs.Prelude.{List, [], Option, None, Some, Result, Ok, Err, map}
use Rattle.graphql_nodes.specs.Names.{NameText}
use Rattle.graphql_nodes.specs.declared.nodes.Node.{Node}
use Rattle.graphql_documents.specs.Directives.{directive_definition}
use Rattle.graphql_documents.specs.Schemas.{type_definition, type_field}
use Rattle.graphql_documents.specs.declared.documents.components.Component.{Component}
use Rattle.graphql_documents.specs.declared.documents.definitions.DirectiveDefinition.{DirectiveDefinition}
use Rattle.graphql_documents.specs.declared.documents.definitions.FieldDefinition.{FieldDefinition}
use Rattle.graphql_documents.specs.declared.documents.definitions.InputValueDefinition.{InputValueDefinition}
use Rattle.graphql_documents.specs.declared.documents.schemas.ExtendedType.{ExtendedType}
use Rattle.graphql_documents.specs.declared.documents.schemas.ExtendedType.TheVariants.{Object, Interface, Enum, InputObject}
use Rattle.graphql_documents.specs.declared.documents.schemas.FieldLookupError.{FieldLookupError}
use Rattle.graphql_documents.specs.declared.documents.schemas.Schema.{Schema}

-- the names under which there are definitions
abbrev pub keys : {T : Type 0} → List (NameText × T) → List NameText
keys entries = map (λ entry. entry.0) entries

-- the names of arguments
abbrev pub names_of_arguments : List (Node InputValueDefinition) → List NameText
names_of_arguments arguments = map (λ argument. argument.value.value.name) arguments

abbrev pub type_names : Schema → List NameText
type_names schema = keys schema.types.entries

abbrev pub directive_names : Schema → List NameText
directive_names schema = keys schema.directive_definitions.entries

-- the fields of an object or an interface
abbrev pub fields_in : Option ExtendedType → List NameText
fields_in (Some (Object definition)) = keys definition.value.value.fields.entries
fields_in (Some (Interface definition)) = keys definition.value.value.fields.entries
fields_in _ = []

abbrev pub field_names : Schema → NameText → List NameText
field_names schema ty = fields_in (type_definition schema ty)

-- the values of an enum
abbrev pub values_in : Option ExtendedType → List NameText
values_in (Some (Enum definition)) = keys definition.value.value.values.entries
values_in _ = []

abbrev pub enum_value_names : Schema → NameText → List NameText
enum_value_names schema ty = values_in (type_definition schema ty)

-- the fields of an input object
abbrev pub input_fields_in : Option ExtendedType → List NameText
input_fields_in (Some (InputObject definition)) = keys definition.value.value.fields.entries
input_fields_in _ = []

abbrev pub input_field_names : Schema → NameText → List NameText
input_field_names schema ty = input_fields_in (type_definition schema ty)

-- the arguments of a field
abbrev pub arguments_of_field : Result (Component FieldDefinition) FieldLookupError → List NameText
arguments_of_field (Ok field) = names_of_arguments field.node.value.value.arguments.items
arguments_of_field (Err e) = []

abbrev pub argument_names : Schema → NameText → NameText → List NameText
argument_names schema ty field = arguments_of_field (type_field schema ty field)

-- the arguments of a directive
abbrev pub arguments_of_directive : Option (Node DirectiveDefinition) → List NameText
arguments_of_directive (Some definition) = names_of_arguments definition.value.value.arguments.items
arguments_of_directive None = []

abbrev pub directive_argument_names : Schema → NameText → List NameText
directive_argument_names schema directive = arguments_of_directive (directive_definition schema directive)
