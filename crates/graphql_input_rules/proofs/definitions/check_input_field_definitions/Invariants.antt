use Rattle.indexmap.specs.IndexMap.{values}
use Rattle.graphql_documents.specs.declared.documents.components.Component.{Component}
use Rattle.graphql_documents.specs.declared.documents.definitions.InputValueDefinition.{InputValueDefinition}
use Rattle.graphql_input_rules.specs.SchemaValues.{InputValueWrites}
use Rattle.graphql_input_rules.proofs.PlaceLemmas.{Walking}
use Rattle.graphql_input_rules.proofs.definitions.check_input_field_definitions.Given as goal

abbrev pub invariant-loop-field : goal.invariant-loop-field
invariant-loop-field l = record {
  can_next : (goal.iterator-loop-field).can_next l.field-iterator;
  is_finite : (goal.iterator-loop-field).is_finite l.field-iterator;
  walk : Walking (λ (f : Component InputValueDefinition). InputValueWrites f.node.value.value) (values l.fields) l.field-iterator l.initial.reports.kept.items l.reports.kept.items;
}
