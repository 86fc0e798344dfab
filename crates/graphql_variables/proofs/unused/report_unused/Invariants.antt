use Rattle.std.proofs.Common.{◌≡◌, ◌++◌, List, All}
use Rattle.graphql_diagnostics.specs.Diagnostics.{entries}
use Rattle.graphql_diagnostics.specs.Reports.{Appends}
use Rattle.graphql_documents.specs.Selections.{Fragments}
use Rattle.graphql_specification.specs.Variables.{AreUnusedReports}
use Rattle.graphql_documents.specs.VariableUses.{UsesVariable}
use Rattle.graphql_documents.specs.declared.documents.executables.Operation.{Operation}
use Rattle.graphql_variables.specs.Uses.{AreUsed, known_names}
use Rattle.graphql_variables.proofs.NameSetLemmas.{entry_names}
use Rattle.graphql_variables.proofs.UnusedLemmas.{IsLast, LastEntry}
use Rattle.graphql_variables.proofs.unused.report_unused.Given as goal

abbrev pub invariant-loop-variable : goal.invariant-loop-variable
invariant-loop-variable l = record {
  can_next : (goal.iterator-loop-variable).can_next l.variable-iterator;
  is_finite : (goal.iterator-loop-variable).is_finite l.variable-iterator;
  done : List LastEntry;
  all : l.variables.entries ≡ done ++ l.variable-iterator;
  reported : (fragments : Fragments) (o : Operation) → AreUsed (UsesVariable fragments o) (known_names l.used) → All (IsLast o.variables.items) l.variables.entries →
      Appends (AreUnusedReports fragments o (entry_names done)) (entries l.initial.diagnostics) (entries l.diagnostics);
}
