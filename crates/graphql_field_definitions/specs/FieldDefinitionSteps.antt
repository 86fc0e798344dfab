-- The steps of the checks of arguments and fields, for the contracts of their private functions.
use Rattle.std.specs.Prelude.{◌≡◌, ◌⊎◌, ℕ, List, Option, None, Result}
use Rattle.std.specs.Borrow.{Bor}
use Rattle.graphql_documents.specs.Definitions.{definition_named}
use Rattle.graphql_diagnostics.specs.Diagnostics.{IsDiagnostic}
use Rattle.graphql_specification.specs.FieldDefinitions.{FieldDefinitionReport, FieldTypeReport, FieldDefinitionHolds}
use Rattle.graphql_specification.specs.InputValueDefinitions.{HasNoInput, IsUndefinedType, RepeatsDefinition, NamesType}
use Rattle.graphql_nodes.specs.Names.{NameText}
use Rattle.graphql_diagnostics.specs.Reports.{Checks}
use Rattle.graphql_documents.specs.Schemas.{is_output_type}
use Rattle.graphql_documents.specs.TypeReferences.{inner_named_type}
use Rattle.graphql_diagnostics.specs.declared.data.DiagnosticData.TheVariants as report
use Rattle.graphql_diagnostics.specs.declared.data.DiagnosticData.{DiagnosticData}
use Rattle.graphql_diagnostics.specs.declared.lists.DiagnosticList.{DiagnosticList}
use Rattle.graphql_documents.specs.declared.documents.definitions.FieldDefinition.{FieldDefinition}
use Rattle.graphql_documents.specs.declared.documents.definitions.InputValueDefinition.{InputValueDefinition}
use Rattle.graphql_nodes.specs.declared.nodes.Node.{Node}
use Rattle.graphql_documents.specs.declared.documents.schemas.Schema.{Schema}
use Rattle.graphql_nodes.specs.declared.spans.SourceSpan.{SourceSpan}
use Rattle.graphql_variables.specs.FirstPlaces.{IsNext}

-- the diagnostic names what is wrong with the type of an argument or an input field
pub data InputTypeReport (schema : Schema) (d : Node InputValueDefinition) : DiagnosticData → Option SourceSpan → Type 0 where
  of_other_kind : {describe : Bor (List ℕ)} {name : NameText} {type_location at : Option SourceSpan} →
      HasNoInput schema d name describe.now type_location at → InputTypeReport schema d (report.InputType name describe type_location) at
  of_undefined : {name : NameText} {at : Option SourceSpan} →
      IsUndefinedType schema (inner_named_type d.value.value.ty.value.value) name at → InputTypeReport schema d (report.UndefinedDefinition name) at

-- the diagnostic says that one of the arguments has the name of an earlier one
pub data RepetitionsReport (arguments : List (Node InputValueDefinition)) : DiagnosticData → Option SourceSpan → Type 0 where
  of_repetition : {name : NameText} {original redefined at : Option SourceSpan} →
      RepeatsDefinition arguments name original redefined at → RepetitionsReport arguments (report.UniqueInputValue name original redefined) at

-- the name of an argument beside its location
abbrev pub visited_argument : Node InputValueDefinition → NameText × Option SourceSpan
visited_argument d = (d.value.value.name, d.location)

-- no argument before it has the name of this one
abbrev pub IsNewArgument : List (Node InputValueDefinition) → Node InputValueDefinition → Type 0
IsNewArgument before d = definition_named d.value.value.name before ≡ None

-- a call that checks a rule for the names of arguments at one of them, behind these
abbrev pub ChecksNextArgument : {T E : Type 0} → Result T E → Type 0 → List (Node InputValueDefinition) → Node InputValueDefinition → DiagnosticList → DiagnosticList → Type 0
ChecksNextArgument result Holds before d old new =
    (arguments : List (Node InputValueDefinition)) → IsNext arguments before d →
    Checks result Holds (IsDiagnostic (RepetitionsReport arguments)) old new

-- a field holds, with its type
abbrev pub TypedFieldHolds : Schema → Node FieldDefinition → Type 0
TypedFieldHolds schema d = FieldDefinitionHolds schema d.value.value × NamesType schema is_output_type (inner_named_type d.value.value.ty)

-- the diagnostic names what is wrong with a field, or with its type
abbrev pub TypedFieldReport : Schema → Node FieldDefinition → DiagnosticData → Option SourceSpan → Type 0
TypedFieldReport schema d r at = FieldDefinitionReport schema d r at ⊎ FieldTypeReport schema d r at
