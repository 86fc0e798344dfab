-- Arguments and input fields, one by one, and what is reported of them.
use Rattle.std.proofs.Common.{All, List, [], ℕ, Option, Some, Contains, map}
use Rattle.std.specs.Prelude.{Result, codes}
use Rattle.graphql_diagnostics.specs.Diagnostics.{IsDiagnostic}
use Rattle.graphql_specification.specs.Directives.{DirectivesReport}
use Rattle.graphql_specification.specs.InputValueDefinitions.{ArgumentDefinitionsReport, InputValueReport, InputValuesReport, NameReport, of_argument, of_input_directives, of_input_name, of_input_type, of_repeated_definition, of_reserved_name, of_undefined_input_type, ArgumentDefinitionsHold, DirectivesHoldAt, InputValueDefinitionHolds, NamesType}
use Rattle.graphql_nodes.specs.Names.{AreDistinct, IsFreeName, NameText}
use Rattle.graphql_diagnostics.specs.Reports.{Reports}
use Rattle.graphql_documents.specs.Schemas.{is_input_type}
use Rattle.graphql_documents.specs.TypeReferences.{inner_named_type}
use Rattle.graphql_diagnostics.proofs.DiagnosticLemmas.{diagnostic_wider}
use Rattle.graphql_diagnostics.proofs.ReportLemmas.{ChecksList, checks_after, checks_words, wider}
use Rattle.graphql_diagnostics.specs.declared.data.DiagnosticData.{DiagnosticData}
use Rattle.graphql_diagnostics.specs.declared.lists.DiagnosticEntry.{DiagnosticEntry}
use Rattle.graphql_nodes.specs.declared.directive_locations.DirectiveLocation.{DirectiveLocation}
use Rattle.graphql_documents.specs.declared.documents.definitions.InputValueDefinition.{InputValueDefinition}
use Rattle.graphql_nodes.specs.declared.nodes.Node.{Node}
use Rattle.graphql_documents.specs.declared.documents.schemas.Schema.{Schema}
use Rattle.graphql_nodes.specs.declared.spans.SourceSpan.{SourceSpan}
use Rattle.graphql_field_definitions.specs.FieldDefinitionSteps.{InputTypeReport, RepetitionsReport, of_other_kind, of_repetition, of_undefined}

-- the type of an argument or input field, without its wrappers
abbrev pub reference_type : Node InputValueDefinition → NameText
reference_type d = inner_named_type d.value.value.ty.value.value

module _ (schema : Schema) (location : DirectiveLocation) (what : List ℕ) (d : Node InputValueDefinition) where
  of_name : (r : DiagnosticData) (at : Option SourceSpan) → NameReport what d.value.value.name r at → InputValueReport schema location what d r at
  of_name r at (of_reserved_name said) = of_input_name said

  of_type : (r : DiagnosticData) (at : Option SourceSpan) → InputTypeReport schema d r at → InputValueReport schema location what d r at
  of_type r at (of_other_kind said) = of_input_type said
  of_type r at (of_undefined said) = of_undefined_input_type said

  -- a diagnostic on its name, on its directives or on its type is one on the argument or input field
  pub names_name : (e : DiagnosticEntry) → IsDiagnostic (NameReport what d.value.value.name) e → IsDiagnostic (InputValueReport schema location what d) e
  names_name = diagnostic_wider (NameReport what d.value.value.name) (InputValueReport schema location what d) of_name

  pub names_directives : (e : DiagnosticEntry) → IsDiagnostic (DirectivesReport (Some schema) [] location d.value.value.directives.items) e →
      IsDiagnostic (InputValueReport schema location what d) e
  names_directives =
      diagnostic_wider (DirectivesReport (Some schema) [] location d.value.value.directives.items) (InputValueReport schema location what d)
      (λ r at said. of_input_directives said)

  pub names_type : (e : DiagnosticEntry) → IsDiagnostic (InputTypeReport schema d) e → IsDiagnostic (InputValueReport schema location what d) e
  names_type = diagnostic_wider (InputTypeReport schema d) (InputValueReport schema location what d) of_type

  -- it was checked, part by part
  pub input_value_checked : {T E : Type 0} (r : Result T E) (old named applied new : List DiagnosticEntry) →
      Reports (IsFreeName d.value.value.name) (IsDiagnostic (NameReport what d.value.value.name)) old named →
      Reports (DirectivesHoldAt schema location d.value.value.directives.items)
      (IsDiagnostic (DirectivesReport (Some schema) [] location d.value.value.directives.items)) named applied →
      ChecksList r (NamesType schema is_input_type (inner_named_type d.value.value.ty.value.value)) (IsDiagnostic (InputTypeReport schema d)) applied new →
      ChecksList r (InputValueDefinitionHolds schema location d.value.value) (IsDiagnostic (InputValueReport schema location what d)) old new
  input_value_checked r old named applied new by_name by_directives by_type =
      let Q = IsDiagnostic (InputValueReport schema location what d) in
      checks_words r _ (InputValueDefinitionHolds schema location d.value.value) Q Q old new
      (λ p. record { name = p.0; directives = p.1.0; ty = p.1.1 }, λ h. (h.name, (h.directives, h.ty))) (λ e q. q)
      (checks_after r _ _ Q old named new (wider names_name by_name)
      (checks_after r _ _ Q named applied new (wider names_directives by_directives)
      (checks_words r _ _ (IsDiagnostic (InputTypeReport schema d)) Q applied new (λ h. h, λ h. h) names_type by_type)))

-- a diagnostic on one of them is one on them together
pub names_one : (schema : Schema) (location : DirectiveLocation) (what : List ℕ) (inputs : List (Node InputValueDefinition)) (d : Node InputValueDefinition) →
    Contains inputs d → (e : DiagnosticEntry) →
    IsDiagnostic (InputValueReport schema location what d) e → IsDiagnostic (InputValuesReport schema location what inputs) e
names_one schema location what inputs d among =
    diagnostic_wider (InputValueReport schema location what d) (InputValuesReport schema location what inputs) (λ r at said. (d, among, said))

module _ (schema : Schema) (location : DirectiveLocation) (arguments : List (Node InputValueDefinition)) where
  of_one : (r : DiagnosticData) (at : Option SourceSpan) → InputValuesReport schema location (codes "an argument") arguments r at →
      ArgumentDefinitionsReport schema location arguments r at
  of_one r at said = of_argument said.1 said.2

  of_repetitions : (r : DiagnosticData) (at : Option SourceSpan) → RepetitionsReport arguments r at → ArgumentDefinitionsReport schema location arguments r at
  of_repetitions r at (of_repetition said) = of_repeated_definition said

  -- a diagnostic on an argument by itself, or on a repetition, is one on the arguments
  pub names_argument : (e : DiagnosticEntry) → IsDiagnostic (InputValuesReport schema location (codes "an argument") arguments) e →
      IsDiagnostic (ArgumentDefinitionsReport schema location arguments) e
  names_argument =
      diagnostic_wider (InputValuesReport schema location (codes "an argument") arguments) (ArgumentDefinitionsReport schema location arguments) of_one

  pub names_repetition : (e : DiagnosticEntry) → IsDiagnostic (RepetitionsReport arguments) e → IsDiagnostic (ArgumentDefinitionsReport schema location arguments) e
  names_repetition = diagnostic_wider (RepetitionsReport arguments) (ArgumentDefinitionsReport schema location arguments) of_repetitions

  -- the arguments were checked, each by itself and then together
  pub argument_definitions_checked : {T E : Type 0} (r : Result T E) (old mid new : List DiagnosticEntry) →
      Reports (All (λ d. InputValueDefinitionHolds schema location d.value.value) arguments)
      (IsDiagnostic (InputValuesReport schema location (codes "an argument") arguments)) old mid →
      ChecksList r (AreDistinct (map (λ d. d.value.value.name) arguments)) (IsDiagnostic (RepetitionsReport arguments)) mid new →
      ChecksList r (ArgumentDefinitionsHold schema location arguments) (IsDiagnostic (ArgumentDefinitionsReport schema location arguments)) old new
  argument_definitions_checked r old mid new each repetitions =
      let Q = IsDiagnostic (ArgumentDefinitionsReport schema location arguments) in
      checks_words r _ (ArgumentDefinitionsHold schema location arguments) Q Q old new
      (λ p. record { each = p.0; distinct = p.1 }, λ h. (h.each, h.distinct)) (λ e q. q)
      (checks_after r _ _ Q old mid new (wider names_argument each)
      (checks_words r _ _ (IsDiagnostic (RepetitionsReport arguments)) Q mid new (λ h. h, λ h. h) names_repetition repetitions))
