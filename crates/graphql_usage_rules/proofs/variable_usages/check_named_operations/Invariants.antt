use Rattle.std.proofs.Common.{◌≡◌, ◌++◌, List}
use Rattle.indexmap.specs.IndexMap.{values}
use Rattle.graphql_nodes.specs.declared.nodes.Node.{Node}
use Rattle.graphql_documents.specs.declared.documents.executables.Operation.{Operation}
use Rattle.graphql_usage_rules.specs.VariableMisuses.{OperationMisuseReport, OperationUsagesAreAllowed}
use Rattle.graphql_usage_rules.proofs.DocumentLemmas.{Walked}
use Rattle.graphql_usage_rules.proofs.variable_usages.check_named_operations.Given as goal

abbrev pub invariant-loop-operation : goal.invariant-loop-operation
invariant-loop-operation l = record {
  can_next : (goal.iterator-loop-operation).can_next l.operation-iterator;
  is_finite : (goal.iterator-loop-operation).is_finite l.operation-iterator;
  done : List (Node Operation);
  all : values l.document.operations.named ≡ done ++ l.operation-iterator;
  reported : Walked (OperationUsagesAreAllowed l.schema l.document) (OperationMisuseReport l.schema l.document) (values l.document.operations.named) done l.initial.reports.kept.items l.reports.kept.items;
}
