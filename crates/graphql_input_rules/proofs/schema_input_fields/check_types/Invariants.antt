use Rattle.indexmap.specs.IndexMap.{values}
use Rattle.graphql_documents.specs.declared.documents.schemas.ExtendedType.{ExtendedType}
use Rattle.graphql_input_rules.specs.SchemaValues.{TypeWrites}
use Rattle.graphql_input_rules.proofs.PlaceLemmas.{Walking}
use Rattle.graphql_input_rules.proofs.schema_input_fields.check_types.Given as goal

abbrev pub invariant-loop-definition : goal.invariant-loop-definition
invariant-loop-definition l = record {
  can_next : (goal.iterator-loop-definition).can_next l.definition-iterator;
  is_finite : (goal.iterator-loop-definition).is_finite l.definition-iterator;
  walk : Walking (λ (t : ExtendedType). TypeWrites t) (values l.types) l.definition-iterator l.initial.reports.kept.items l.reports.kept.items;
}
