-- What is said of `@defer` in an operation, as said of the document; and its rules together.
use Rattle.std.proofs.Common.{◌≡◌, ◌↔◌, List, All, Contains, sym}
use mathlib.Core.Logic.{◌⊎◌}
use Rattle.graphql_specification.specs.Defer.{DeferHolds, LabelsHold, OperationDeferHolds}
use Rattle.graphql_documents.specs.Executables.{operations_of}
use Rattle.graphql_diagnostics.specs.Diagnostics.{IsLimitEntry}
use Rattle.graphql_diagnostics.specs.Reports.{KeepsReports, ReportsWithin}
use Rattle.graphql_documents.specs.Selections.{fragments_of}
use Rattle.graphql_diagnostics.specs.declared.lists.DiagnosticEntry.{DiagnosticEntry}
use Rattle.graphql_documents.specs.declared.documents.executables.ExecutableDocument.{ExecutableDocument}
use Rattle.graphql_documents.specs.declared.documents.executables.Operation.{Operation}
use Rattle.graphql_nodes.specs.declared.nodes.Node.{Node}
use Rattle.graphql_diagnostics.proofs.ReportLemmas.{kept_wider}
use Rattle.graphql_diagnostics.proofs.ReportWithinLemmas.{wider_within}
use Rattle.graphql_operations.specs.DeferLabels.{DeferEntryReport}
use Rattle.graphql_operations.specs.OperationDefers.{OperationDeferLimit, OperationDeferReport}
use Rattle.graphql_operations.proofs.OperationDeferLemmas.{of_an_operations_defer}

module _ (document : ExecutableDocument) (o : Node Operation) (in' : Contains (operations_of document) o) where
  -- an operation was checked, at hand in another form
  pub operation_checked : (part : Operation) (old new : List DiagnosticEntry) → part ≡ o.value.value →
      ReportsWithin IsLimitEntry (OperationDeferHolds (fragments_of document) part)
      (λ e. OperationDeferReport (fragments_of document) part e.details e.location ⊎ OperationDeferLimit (fragments_of document) part e.details e.location) old new →
      ReportsWithin IsLimitEntry (OperationDeferHolds (fragments_of document) o.value.value) (DeferEntryReport document) old new
  operation_checked part old new same r = wider_within IsLimitEntry (of_an_operations_defer document o in') (rw (sym same) r)

  pub operation_kept : (part : Operation) (old new : List DiagnosticEntry) → part ≡ o.value.value →
      KeepsReports (λ e. OperationDeferReport (fragments_of document) part e.details e.location ⊎ OperationDeferLimit (fragments_of document) part e.details e.location) old new →
      KeepsReports (DeferEntryReport document) old new
  operation_kept part old new same r = kept_wider (of_an_operations_defer document o in') (rw (sym same) r)

-- `@defer` in a document holds where its labels do, and where it holds in each operation
pub defer_decides : (document : ExecutableDocument) →
    (LabelsHold document × All (λ o. OperationDeferHolds (fragments_of document) o.value.value) (operations_of document)) ↔ DeferHolds document
defer_decides document = (λ p. record { labels = p.0; operations = p.1 }, λ h. (h.labels, h.operations))
