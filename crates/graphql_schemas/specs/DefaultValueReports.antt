-- What is checked of the default values of a schema, argument by argument and field by field. Specification:
-- 3.6.1 Field Arguments, 3.10 Input Objects.
use Rattle.std.specs.Prelude.{◌≡◌, List, [], Option, Result, Some, All, Contains}
use Rattle.graphql_specification.specs.DefaultValues.{DefaultValueHolds}
use Rattle.graphql_diagnostics.specs.Diagnostics.{IsDiagnostic}
use Rattle.graphql_diagnostics.specs.Reports.{Checks}
use Rattle.graphql_documents.specs.Schemas.{NamesKind, is_input_type}
use Rattle.graphql_documents.specs.TypeReferences.{inner_named_type, reference_of}
use Rattle.graphql_specification.specs.Values.{ValueReport}
use Rattle.graphql_diagnostics.specs.declared.data.DiagnosticData.{DiagnosticData}
use Rattle.graphql_diagnostics.specs.declared.lists.DiagnosticList.{DiagnosticList}
use Rattle.graphql_documents.specs.declared.documents.definitions.InputValueDefinition.{InputValueDefinition}
use Rattle.graphql_nodes.specs.declared.nodes.Node.{Node}
use Rattle.graphql_documents.specs.declared.documents.schemas.Schema.{Schema}
use Rattle.graphql_nodes.specs.declared.spans.SourceSpan.{SourceSpan}
use Rattle.graphql_documents.specs.declared.documents.values.Value.{Value}

-- the diagnostic names what is wrong with the default value of an argument or input field
pub record DefaultValueReport (schema : Schema) (d : InputValueDefinition) (r : DiagnosticData) (at : Option SourceSpan) : Type 0 where
  pub value : Node Value
  pub kind_is : NamesKind schema is_input_type (inner_named_type d.ty.value.value)
  pub is_default : d.default_value ≡ Some value
  pub broken : ValueReport schema [] (reference_of d.ty) value r at

-- the same of one of these
abbrev pub InputDefaultsReport : Schema → List (Node InputValueDefinition) → DiagnosticData → Option SourceSpan → Type 0
InputDefaultsReport schema inputs r at = (d : Node InputValueDefinition) × Contains inputs d × DefaultValueReport schema d.value.value r at

-- a call that checks the default values of these
abbrev pub ChecksDefaults : {T E : Type 0} → Result T E → Schema → List (Node InputValueDefinition) → DiagnosticList → DiagnosticList → Type 0
ChecksDefaults result schema inputs old new =
    Checks result (All (λ d. DefaultValueHolds schema d.value.value) inputs) (IsDiagnostic (InputDefaultsReport schema inputs)) old new
