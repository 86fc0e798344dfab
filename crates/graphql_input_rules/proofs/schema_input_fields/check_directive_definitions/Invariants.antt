use Rattle.indexmap.specs.IndexMap.{values}
use Rattle.graphql_nodes.specs.declared.nodes.Node.{Node}
use Rattle.graphql_documents.specs.declared.documents.definitions.DirectiveDefinition.{DirectiveDefinition}
use Rattle.graphql_input_rules.specs.SchemaValues.{ArgumentsWrite}
use Rattle.graphql_input_rules.proofs.PlaceLemmas.{Walking}
use Rattle.graphql_input_rules.proofs.schema_input_fields.check_directive_definitions.Given as goal

abbrev pub invariant-loop-definition : goal.invariant-loop-definition
invariant-loop-definition l = record {
  can_next : (goal.iterator-loop-definition).can_next l.definition-iterator;
  is_finite : (goal.iterator-loop-definition).is_finite l.definition-iterator;
  walk : Walking (λ (d : Node DirectiveDefinition). ArgumentsWrite d.value.value.arguments.items) (values l.definitions) l.definition-iterator l.initial.reports.kept.items l.reports.kept.items;
}
