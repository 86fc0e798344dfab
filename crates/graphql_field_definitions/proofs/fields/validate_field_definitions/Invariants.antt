use Rattle.std.proofs.Common.{◌≡◌, ◌++◌, All, List}
use Rattle.std.specs.Prelude.{flat_map}
use Rattle.graphql_diagnostics.specs.Diagnostics.{IsDiagnostic, entries}
use Rattle.graphql_specification.specs.FieldDefinitions.{FieldDefinitionsReport}
use Rattle.graphql_nodes.specs.Names.{NameText}
use Rattle.graphql_diagnostics.specs.Reports.{Reports}
use Rattle.graphql_specification.specs.BuiltInScalars.{field_types}
use Rattle.graphql_documents.specs.declared.documents.components.Component.{Component}
use Rattle.graphql_documents.specs.declared.documents.definitions.FieldDefinition.{FieldDefinition}
use Rattle.graphql_field_definitions.specs.BuiltInScalarUses.{Records}
use Rattle.graphql_field_definitions.specs.FieldDefinitionSteps.{TypedFieldHolds}
use Rattle.graphql_field_definitions.proofs.fields.validate_field_definitions.Given as goal

-- what is wrong with the fields so far is reported, and the types to which they refer are recorded
abbrev pub invariant-loop-field : goal.invariant-loop-field
invariant-loop-field l = record {
  can_next : (goal.iterator-loop-field).can_next l.field-iterator;
  is_finite : (goal.iterator-loop-field).is_finite l.field-iterator;
  done : List (NameText × Component FieldDefinition);
  all : l.fields.entries ≡ done ++ l.field-iterator;
  reported : Reports (All (λ entry. TypedFieldHolds l.schema entry.1.node) done)
      (IsDiagnostic (FieldDefinitionsReport l.schema l.fields.entries)) (entries l.initial.diagnostics) (entries l.diagnostics);
  recorded : Records l.initial.built_in_scalars l.built_in_scalars (flat_map (λ entry. field_types entry.1.node.value.value) done);
}
