use Rattle.indexmap.specs.IndexMap.{values}
use Rattle.graphql_nodes.specs.declared.nodes.Node.{Node}
use Rattle.graphql_documents.specs.declared.documents.executables.Operation.{Operation}
use Rattle.graphql_input_rules.specs.ValuesWritten.{OperationWrites}
use Rattle.graphql_input_rules.proofs.PlaceLemmas.{Walking}
use Rattle.graphql_input_rules.proofs.input_fields.check_named_operations.Given as goal

abbrev pub invariant-loop-operation : goal.invariant-loop-operation
invariant-loop-operation l = record {
  can_next : (goal.iterator-loop-operation).can_next l.operation-iterator;
  is_finite : (goal.iterator-loop-operation).is_finite l.operation-iterator;
  walk : Walking (λ (x : Node Operation). OperationWrites x.value.value) (values l.operations) l.operation-iterator l.initial.reports.kept.items l.reports.kept.items;
}
