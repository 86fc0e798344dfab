-- Directives that are checked as a slice, in the words of what they are applied to.
use Rattle.std.proofs.Common.{◌≡◌, List, Option, subst}
use Rattle.graphql_diagnostics.specs.Diagnostics.{IsDiagnostic}
use Rattle.graphql_specification.specs.Directives.{DirectivesReport, ApplicationsHold}
use Rattle.graphql_diagnostics.specs.Reports.{KeepsReports, Reports}
use Rattle.graphql_diagnostics.proofs.DiagnosticLemmas.{diagnostic_wider}
use Rattle.graphql_diagnostics.proofs.ReportLemmas.{kept_wider, wider}
use Rattle.graphql_diagnostics.specs.declared.data.DiagnosticData.{DiagnosticData}
use Rattle.graphql_diagnostics.specs.declared.lists.DiagnosticEntry.{DiagnosticEntry}
use Rattle.graphql_nodes.specs.declared.directive_locations.DirectiveLocation.{DirectiveLocation}
use Rattle.graphql_documents.specs.declared.documents.definitions.VariableDefinition.{VariableDefinition}
use Rattle.graphql_documents.specs.declared.documents.directives.Directive.{Directive}
use Rattle.graphql_nodes.specs.declared.nodes.Node.{Node}
use Rattle.graphql_documents.specs.declared.documents.schemas.Schema.{Schema}
use Rattle.graphql_nodes.specs.declared.spans.SourceSpan.{SourceSpan}

module _ {schema : Option Schema} {variables : List (Node VariableDefinition)} {location : DirectiveLocation} {given directives : List (Node Directive)}
    (DiagnosticReport : DiagnosticData → Option SourceSpan → Type 0) {old new : List DiagnosticEntry} where
  pub directives_kept : ((r : DiagnosticData) (at : Option SourceSpan) → DirectivesReport schema variables location directives r at → DiagnosticReport r at) → given ≡ directives →
      KeepsReports (IsDiagnostic (DirectivesReport schema variables location given)) old new → KeepsReports (IsDiagnostic DiagnosticReport) old new
  directives_kept wide same k =
      kept_wider (diagnostic_wider (DirectivesReport schema variables location directives) DiagnosticReport wide)
      (subst (λ l. KeepsReports (IsDiagnostic (DirectivesReport schema variables location l)) old new) same k)

  pub directives_reported : ((r : DiagnosticData) (at : Option SourceSpan) → DirectivesReport schema variables location directives r at → DiagnosticReport r at) → given ≡ directives →
      Reports (ApplicationsHold schema variables location given) (IsDiagnostic (DirectivesReport schema variables location given)) old new →
      Reports (ApplicationsHold schema variables location directives) (IsDiagnostic DiagnosticReport) old new
  directives_reported wide same r =
      wider (diagnostic_wider (DirectivesReport schema variables location directives) DiagnosticReport wide)
      (subst (λ l. Reports (ApplicationsHold schema variables location l) (IsDiagnostic (DirectivesReport schema variables location l)) old new) same r)
