-- Default values of arguments and input fields: when they hold, and what a diagnostic says of one. Specification: 3.6.1 Field
-- Arguments, 3.10 Input Objects.
use Rattle.std.specs.Prelude.{List, ◌++◌, flat_map, map, ◌≡◌, [], Some, All, Option, Contains}
use Rattle.graphql_documents.specs.Schemas.{fields_of, input_fields_of, NamesKind, is_input_type}
use Rattle.graphql_specification.specs.Values.{Accepts, ValueReport}
use Rattle.graphql_documents.specs.TypeReferences.{inner_named_type, reference_of}
use Rattle.graphql_documents.specs.declared.documents.definitions.InputValueDefinition.{InputValueDefinition}
use Rattle.graphql_nodes.specs.declared.nodes.Node.{Node}
use Rattle.graphql_documents.specs.declared.documents.schemas.ExtendedType.{ExtendedType}
use Rattle.graphql_documents.specs.declared.documents.schemas.Schema.{Schema}
use Rattle.graphql_documents.specs.declared.documents.values.Value.{Value}
use Rattle.graphql_diagnostics.specs.declared.data.DiagnosticData.{DiagnosticData}
use Rattle.graphql_nodes.specs.declared.spans.SourceSpan.{SourceSpan}

-- the arguments of the fields of a type, and its input fields, in order
abbrev pub inputs_of_type : ExtendedType → List (Node InputValueDefinition)
inputs_of_type d =
    flat_map (λ entry. entry.1.node.value.value.arguments.items) (fields_of d) ++ map (λ entry. entry.1.node) (input_fields_of d)

-- the arguments of the directives of a schema, and the arguments and input fields of its types, in order
abbrev pub inputs_of : Schema → List (Node InputValueDefinition)
inputs_of schema =
    flat_map (λ entry. entry.1.value.value.arguments.items) schema.directive_definitions.entries ++
    flat_map (λ entry. inputs_of_type entry.1) schema.types.entries

-- the default of an argument or input field is accepted for its type, without variables, if that names a
-- defined input type
abbrev pub DefaultValueHolds : Schema → InputValueDefinition → Type 0
DefaultValueHolds schema d =
    NamesKind schema is_input_type (inner_named_type d.ty.value.value) →
    (value : Node Value) → d.default_value ≡ Some value → Accepts schema [] d.ty.value.value value.value.value

-- the default values of a schema hold
abbrev pub DefaultValuesHold : Schema → Type 0
DefaultValuesHold schema = All (λ d. DefaultValueHolds schema d.value.value) (inputs_of schema)

-- the diagnostic names what is wrong with a default value of the schema
pub record DefaultValuesReport (schema : Schema) (r : DiagnosticData) (at : Option SourceSpan) : Type 0 where
  pub d : Node InputValueDefinition
  pub value : Node Value
  pub stands : Contains (inputs_of schema) d
  pub kind_is : NamesKind schema is_input_type (inner_named_type d.value.value.ty.value.value)
  pub is_default : d.value.value.default_value ≡ Some value
  pub broken : ValueReport schema [] (reference_of d.value.value.ty) value r at
