use Rattle.indexmap.specs.IndexMap.{values}
use Rattle.graphql_nodes.specs.declared.nodes.Node.{Node}
use Rattle.graphql_documents.specs.declared.documents.executables.Operation.{Operation}
use Rattle.graphql_deprecations.specs.InOrder.{OperationUses}
use Rattle.graphql_deprecations.proofs.AddLemmas.{Walking}
use Rattle.graphql_deprecations.proofs.usages.add_in_named_operations.Given as goal

abbrev pub invariant-loop-operation : goal.invariant-loop-operation
invariant-loop-operation l = record {
  can_next : (goal.iterator-loop-operation).can_next l.operation-iterator;
  is_finite : (goal.iterator-loop-operation).is_finite l.operation-iterator;
  walk : Walking (λ (x : Node Operation). OperationUses l.schema x.value.value) (values l.operations) l.operation-iterator l.initial.found.items l.found.items;
}
