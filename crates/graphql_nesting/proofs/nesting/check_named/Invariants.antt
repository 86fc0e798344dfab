use Rattle.std.proofs.Common.{◌≡◌, ◌++◌, All, List}
use Rattle.graphql_nodes.specs.declared.nodes.Node.{Node}
use Rattle.graphql_documents.specs.Selections.{fragments_of}
use Rattle.graphql_documents.specs.declared.documents.executables.Operation.{Operation}
use Rattle.graphql_nesting.specs.Nesting.{OperationNests}
use Rattle.graphql_nesting.proofs.nesting.check_named.Given as goal

abbrev pub invariant-loop-operation : goal.invariant-loop-operation
invariant-loop-operation l = record {
  done : List (Node Operation);
  all : l.initial.operation-iterator ≡ done ++ l.operation-iterator;
  nest : All (OperationNests (fragments_of l.document) l.most) done;
}
