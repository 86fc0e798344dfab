use Rattle.indexmap.specs.IndexMap.{values}
use Rattle.graphql_documents.specs.declared.documents.components.Component.{Component}
use Rattle.graphql_documents.specs.declared.documents.definitions.FieldDefinition.{FieldDefinition}
use Rattle.graphql_input_rules.specs.SchemaValues.{FieldDefinitionWrites}
use Rattle.graphql_input_rules.proofs.PlaceLemmas.{Walking}
use Rattle.graphql_input_rules.proofs.definitions.check_field_definitions.Given as goal

abbrev pub invariant-loop-field : goal.invariant-loop-field
invariant-loop-field l = record {
  can_next : (goal.iterator-loop-field).can_next l.field-iterator;
  is_finite : (goal.iterator-loop-field).is_finite l.field-iterator;
  walk : Walking (λ (f : Component FieldDefinition). FieldDefinitionWrites f.node.value.value) (values l.fields) l.field-iterator l.initial.reports.kept.items l.reports.kept.items;
}
