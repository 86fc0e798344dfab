-- The values that are written in a type system document.
-- Specification: 3.3 Schema, 3.4 Types, 3.6.1 Field Arguments, 3.9 Enums, 3.10 Input Objects, 3.13 Directives.
use Rattle.std.specs.Prelude.{◌⊎◌, ◌∷◌, [], List, Any}
use Rattle.indexmap.specs.IndexMap.{values}
use Rattle.graphql_nodes.specs.declared.nodes.Node.{Node}
use Rattle.graphql_documents.specs.declared.documents.components.Component.{Component}
use Rattle.graphql_documents.specs.declared.documents.definitions.DirectiveDefinition.{DirectiveDefinition}
use Rattle.graphql_documents.specs.declared.documents.definitions.EnumValueDefinition.{EnumValueDefinition}
use Rattle.graphql_documents.specs.declared.documents.definitions.FieldDefinition.{FieldDefinition}
use Rattle.graphql_documents.specs.declared.documents.definitions.InputValueDefinition.{InputValueDefinition}
use Rattle.graphql_documents.specs.declared.documents.directives.Directive.{Directive}
use Rattle.graphql_documents.specs.declared.documents.meta_fields.MetaFields.{MetaFields}
use Rattle.graphql_documents.specs.declared.documents.schemas.ExtendedType.{ExtendedType}
use Rattle.graphql_documents.specs.declared.documents.schemas.ExtendedType.TheVariants.{Enum, InputObject, Interface, Object, Scalar, Union}
use Rattle.graphql_documents.specs.declared.documents.schemas.Schema.{Schema}
use Rattle.graphql_documents.specs.declared.documents.values.Value.{Value}
use Rattle.graphql_input_rules.specs.InputFields.{FieldReport, FieldsAreUnique}
use Rattle.graphql_input_rules.specs.ValuesWritten.{DefaultWrites, InArguments, InDirectives}
use Rattle.graphql_input_rules.specs.declared.reports.InputFieldRepetition.{InputFieldRepetition}

-- an argument of one of these directives writes the value: those of a definition, and of its extensions
abbrev pub InAppliedDirectives : List (Component Directive) → Value → Type 0
InAppliedDirectives directives value = Any (λ d. InArguments d.node.value.value.arguments.items value) directives

-- the argument or input field has the value in its directives or its default value
abbrev pub InputValueWrites : InputValueDefinition → Value → Type 0
InputValueWrites d value = InDirectives d.directives.items value ⊎ DefaultWrites d.default_value value

-- one of these arguments does
abbrev pub ArgumentsWrite : List (Node InputValueDefinition) → Value → Type 0
ArgumentsWrite arguments value = Any (λ a. InputValueWrites a.value.value value) arguments

-- one of these input fields does
abbrev pub InputFieldsWrite : List (Component InputValueDefinition) → Value → Type 0
InputFieldsWrite fields value = Any (λ f. InputValueWrites f.node.value.value value) fields

-- the field has the value in its directives or its arguments
abbrev pub FieldDefinitionWrites : FieldDefinition → Value → Type 0
FieldDefinitionWrites f value = InDirectives f.directives.items value ⊎ ArgumentsWrite f.arguments.items value

-- one of these fields does
abbrev pub FieldsWrite : List (Component FieldDefinition) → Value → Type 0
FieldsWrite fields value = Any (λ f. FieldDefinitionWrites f.node.value.value value) fields

-- one of these enum values has the value in its directives
abbrev pub EnumValuesWrite : List (Component EnumValueDefinition) → Value → Type 0
EnumValuesWrite enum_values value = Any (λ e. InDirectives e.node.value.value.directives.items value) enum_values

-- the type has the value in its directives, its fields, its values or its input fields
abbrev pub TypeWrites : ExtendedType → Value → Type 0
TypeWrites (Scalar d) value = InAppliedDirectives d.value.value.directives.items value
TypeWrites (Object d) value = InAppliedDirectives d.value.value.directives.items value ⊎ FieldsWrite (values d.value.value.fields) value
TypeWrites (Interface d) value = InAppliedDirectives d.value.value.directives.items value ⊎ FieldsWrite (values d.value.value.fields) value
TypeWrites (Union d) value = InAppliedDirectives d.value.value.directives.items value
TypeWrites (Enum d) value = InAppliedDirectives d.value.value.directives.items value ⊎ EnumValuesWrite (values d.value.value.values) value
TypeWrites (InputObject d) value = InAppliedDirectives d.value.value.directives.items value ⊎ InputFieldsWrite (values d.value.value.fields) value

-- one of these directive definitions has the value in its arguments
abbrev pub DirectiveDefinitionsWrite : List (Node DirectiveDefinition) → Value → Type 0
DirectiveDefinitionsWrite definitions value = Any (λ d. ArgumentsWrite d.value.value.arguments.items value) definitions

-- one of these types has the value
abbrev pub TypesWrite : List ExtendedType → Value → Type 0
TypesWrite types value = Any (λ t. TypeWrites t value) types

-- `__typename`, `__schema` and `__type`. Specification: 4.1 Type Name Introspection, 4.2 Schema Introspection
abbrev pub meta_fields_of : MetaFields → List (Component FieldDefinition)
meta_fields_of fields = fields.typename ∷ fields.schema ∷ fields.type_by_name ∷ []

-- the schema has the value in its own directives, a directive definition, a type or a meta-field
abbrev pub SchemaWrites : Schema → Value → Type 0
SchemaWrites schema value =
    InAppliedDirectives schema.schema_definition.value.value.directives.items value ⊎
    (DirectiveDefinitionsWrite (values schema.directive_definitions) value ⊎
    (TypesWrite (values schema.types) value ⊎ FieldsWrite (meta_fields_of schema.meta_fields) value))

-- "There must be one and only one input field under each name": in each object value in the schema
abbrev pub SchemaInputFieldsAreUnique : Schema → Type 0
SchemaInputFieldsAreUnique schema = FieldsAreUnique (SchemaWrites schema)

-- the report is true of the schema
abbrev pub SchemaInputFieldReport : Schema → InputFieldRepetition → Type 0
SchemaInputFieldReport schema = FieldReport (SchemaWrites schema)
