use Rattle.std.proofs.Common.{◌≡◌, ◌++◌, All, List}
use Rattle.graphql_diagnostics.specs.Diagnostics.{IsLimitEntry, entries}
use Rattle.graphql_diagnostics.specs.declared.lists.DiagnosticEntry.{DiagnosticEntry}
use Rattle.graphql_change_witnesses.proofs.confirmation.has_no_limit.Given as goal

abbrev pub invariant-loop-entry : goal.invariant-loop-entry
invariant-loop-entry l = record {
  done : List DiagnosticEntry;
  all : entries l.rules ≡ done ++ l.entry-iterator.rest.now;
  none : All (λ (e : DiagnosticEntry). ¬ IsLimitEntry e) done;
}
