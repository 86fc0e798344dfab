-- Entries of a list of diagnostics, as broken rules.
use Rattle.std.specs.Prelude.{Option}
use Rattle.graphql_diagnostics.specs.Diagnostics.{DiagnosticReport, IsDiagnostic}
use Rattle.graphql_nodes.specs.declared.spans.SourceSpan.{SourceSpan}
use Rattle.graphql_diagnostics.specs.declared.data.DiagnosticData.{DiagnosticData}
use Rattle.graphql_diagnostics.specs.declared.details.Details.{Details}
use Rattle.graphql_diagnostics.specs.declared.details.Details.TheVariants.{Diagnostic, Build, RecursionLimit}
use Rattle.graphql_diagnostics.specs.declared.lists.DiagnosticEntry.{DiagnosticEntry}

-- what a diagnostic says in narrow words it says in wider ones
pub diagnostic_wider : (P Q : DiagnosticData → Option SourceSpan → Type 0) →
    ((r : DiagnosticData) (at : Option SourceSpan) → P r at → Q r at) →
    (e : DiagnosticEntry) → IsDiagnostic P e → IsDiagnostic Q e
diagnostic_wider P Q wide e said = by_details e.details e.location said where
  by_details : (d : Details) (at : Option SourceSpan) → DiagnosticReport P d at → DiagnosticReport Q d at
  by_details (Diagnostic r) at p = wide r at p
  by_details (Build b) at p = absurd p
  by_details (RecursionLimit l) at p = absurd p
