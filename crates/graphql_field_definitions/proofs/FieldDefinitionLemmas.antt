-- Fields of objects and interfaces, one by one, and what is reported of them.
use Rattle.std.proofs.Common.{[], Contains, List, Option, Some, inl, inr}
use Rattle.std.specs.Prelude.{Result, codes}
use Rattle.graphql_diagnostics.specs.Diagnostics.{IsDiagnostic}
use Rattle.graphql_specification.specs.Directives.{DirectivesReport}
use Rattle.graphql_specification.specs.InputValueDefinitions.{ArgumentDefinitionsReport, NameReport, of_reserved_name, ArgumentDefinitionsHold, DirectivesHoldAt, NamesType}
use Rattle.graphql_specification.specs.FieldDefinitions.{FieldDefinitionReport, FieldDefinitionsReport, FieldTypeReport, field_arguments, field_directives, field_name, of_one_field, of_type_of_one, FieldDefinitionHolds}
use Rattle.graphql_specification.specs.Implementations.{FieldList}
use Rattle.graphql_nodes.specs.Names.{IsFreeName, NameText}
use Rattle.graphql_diagnostics.specs.Reports.{Reports}
use Rattle.graphql_documents.specs.Schemas.{is_output_type}
use Rattle.graphql_documents.specs.TypeReferences.{inner_named_type}
use Rattle.graphql_diagnostics.proofs.DiagnosticLemmas.{diagnostic_wider}
use Rattle.graphql_diagnostics.proofs.ReportLemmas.{ChecksList, checks_after, checks_words, wider}
use Rattle.graphql_diagnostics.specs.declared.data.DiagnosticData.{DiagnosticData}
use Rattle.graphql_diagnostics.specs.declared.lists.DiagnosticEntry.{DiagnosticEntry}
use Rattle.graphql_documents.specs.declared.documents.components.Component.{Component}
use Rattle.graphql_nodes.specs.declared.directive_locations.DirectiveLocation.TheVariants as allowed_at
use Rattle.graphql_documents.specs.declared.documents.definitions.FieldDefinition.{FieldDefinition}
use Rattle.graphql_nodes.specs.declared.nodes.Node.{Node}
use Rattle.graphql_documents.specs.declared.documents.schemas.Schema.{Schema}
use Rattle.graphql_nodes.specs.declared.spans.SourceSpan.{SourceSpan}
use Rattle.graphql_field_definitions.specs.FieldDefinitionSteps.{TypedFieldReport, TypedFieldHolds}

module _ (schema : Schema) (d : Node FieldDefinition) where
  of_name : (r : DiagnosticData) (at : Option SourceSpan) → NameReport (codes "a field") d.value.value.name r at → FieldDefinitionReport schema d r at
  of_name r at (of_reserved_name said) = field_name said

  -- a diagnostic on its name, on its directives or on its arguments is one on the field
  pub names_field_name : (e : DiagnosticEntry) → IsDiagnostic (NameReport (codes "a field") d.value.value.name) e → IsDiagnostic (FieldDefinitionReport schema d) e
  names_field_name = diagnostic_wider (NameReport (codes "a field") d.value.value.name) (FieldDefinitionReport schema d) of_name

  pub names_field_directives : (e : DiagnosticEntry) →
      IsDiagnostic (DirectivesReport (Some schema) [] allowed_at.FieldDefinition d.value.value.directives.items) e → IsDiagnostic (FieldDefinitionReport schema d) e
  names_field_directives =
      diagnostic_wider (DirectivesReport (Some schema) [] allowed_at.FieldDefinition d.value.value.directives.items) (FieldDefinitionReport schema d)
      (λ r at said. field_directives said)

  pub names_field_arguments : (e : DiagnosticEntry) →
      IsDiagnostic (ArgumentDefinitionsReport schema allowed_at.ArgumentDefinition d.value.value.arguments.items) e → IsDiagnostic (FieldDefinitionReport schema d) e
  names_field_arguments =
      diagnostic_wider (ArgumentDefinitionsReport schema allowed_at.ArgumentDefinition d.value.value.arguments.items) (FieldDefinitionReport schema d)
      (λ r at said. field_arguments said)

  -- it was checked, part by part
  pub field_checked : {T E : Type 0} (r : Result T E) (old named applied new : List DiagnosticEntry) →
      Reports (IsFreeName d.value.value.name) (IsDiagnostic (NameReport (codes "a field") d.value.value.name)) old named →
      Reports (DirectivesHoldAt schema allowed_at.FieldDefinition d.value.value.directives.items)
      (IsDiagnostic (DirectivesReport (Some schema) [] allowed_at.FieldDefinition d.value.value.directives.items)) named applied →
      ChecksList r (ArgumentDefinitionsHold schema allowed_at.ArgumentDefinition d.value.value.arguments.items)
      (IsDiagnostic (ArgumentDefinitionsReport schema allowed_at.ArgumentDefinition d.value.value.arguments.items)) applied new →
      ChecksList r (FieldDefinitionHolds schema d.value.value) (IsDiagnostic (FieldDefinitionReport schema d)) old new
  field_checked r old named applied new by_name by_directives by_arguments =
      let Q = IsDiagnostic (FieldDefinitionReport schema d) in
      checks_words r _ (FieldDefinitionHolds schema d.value.value) Q Q old new
      (λ p. record { name = p.0; directives = p.1.0; arguments = p.1.1 }, λ h. (h.name, (h.directives, h.arguments))) (λ e q. q)
      (checks_after r _ _ Q old named new (wider names_field_name by_name)
      (checks_after r _ _ Q named applied new (wider names_field_directives by_directives)
      (checks_words r _ _ (IsDiagnostic (ArgumentDefinitionsReport schema allowed_at.ArgumentDefinition d.value.value.arguments.items)) Q applied new
      (λ h. h, λ h. h) names_field_arguments by_arguments)))

  -- a diagnostic on the field, or on its type, is one on both
  pub names_untyped : (e : DiagnosticEntry) → IsDiagnostic (FieldDefinitionReport schema d) e → IsDiagnostic (TypedFieldReport schema d) e
  names_untyped = diagnostic_wider (FieldDefinitionReport schema d) (TypedFieldReport schema d) (λ r at said. inl said)

  pub names_field_type : (e : DiagnosticEntry) → IsDiagnostic (FieldTypeReport schema d) e → IsDiagnostic (TypedFieldReport schema d) e
  names_field_type = diagnostic_wider (FieldTypeReport schema d) (TypedFieldReport schema d) (λ r at said. inr said)

  -- the field was checked, and then its type
  pub typed_field_checked : {T E : Type 0} (r : Result T E) (old mid new : List DiagnosticEntry) →
      Reports (FieldDefinitionHolds schema d.value.value) (IsDiagnostic (FieldDefinitionReport schema d)) old mid →
      ChecksList r (NamesType schema is_output_type (inner_named_type d.value.value.ty)) (IsDiagnostic (FieldTypeReport schema d)) mid new →
      ChecksList r (TypedFieldHolds schema d) (IsDiagnostic (TypedFieldReport schema d)) old new
  typed_field_checked r old mid new untyped by_type =
      let Q = IsDiagnostic (TypedFieldReport schema d) in
      checks_after r _ _ Q old mid new (wider names_untyped untyped)
      (checks_words r _ _ (IsDiagnostic (FieldTypeReport schema d)) Q mid new (λ h. h, λ h. h) names_field_type by_type)

-- a diagnostic on one of the fields is one on them together
pub names_typed_field : (schema : Schema) (fields : FieldList) (entry : NameText × Component FieldDefinition) → Contains fields entry → (e : DiagnosticEntry) →
    IsDiagnostic (TypedFieldReport schema entry.1.node) e → IsDiagnostic (FieldDefinitionsReport schema fields) e
names_typed_field schema fields entry among = diagnostic_wider (TypedFieldReport schema entry.1.node) (FieldDefinitionsReport schema fields) by_part where
  by_part : (r : DiagnosticData) (at : Option SourceSpan) → TypedFieldReport schema entry.1.node r at → FieldDefinitionsReport schema fields r at
  by_part r at (inl said) = of_one_field among said
  by_part r at (inr said) = of_type_of_one among said
