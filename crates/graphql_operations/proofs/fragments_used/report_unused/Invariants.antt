use Rattle.std.proofs.Common.{◌≡◌, ◌++◌, List}
use Rattle.indexmap.specs.IndexMap.{values}
use Rattle.graphql_documents.specs.Executables.{operations_of}
use Rattle.graphql_diagnostics.specs.Diagnostics.{entries}
use Rattle.graphql_specification.specs.FragmentsUsed.{AreUnusedFragmentReports}
use Rattle.graphql_diagnostics.specs.Reports.{Appends}
use Rattle.graphql_documents.specs.declared.documents.executables.Fragment.{Fragment}
use Rattle.graphql_nodes.specs.declared.nodes.Node.{Node}
use Rattle.graphql_operations.specs.UsedFragments.{IsSpreadByAny}
use Rattle.graphql_variables.specs.Uses.{HasUsed}
use Rattle.graphql_operations.proofs.fragments_used.report_unused.Given as goal

abbrev pub invariant-loop-fragment : goal.invariant-loop-fragment
invariant-loop-fragment l = record {
  can_next : (goal.iterator-loop-fragment).can_next l.fragment-iterator;
  is_finite : (goal.iterator-loop-fragment).is_finite l.fragment-iterator;
  done : List (Node Fragment);
  all : values l.document.fragments ≡ done ++ l.fragment-iterator;
  reported : HasUsed (IsSpreadByAny l.document (operations_of l.document)) l.used →
      Appends (AreUnusedFragmentReports l.document done) (entries l.initial.diagnostics) (entries l.diagnostics);
}
