use Rattle.std.proofs.Common.{All, take}
use Rattle.graphql_specification.specs.Defer.{OperationDeferHolds}
use Rattle.graphql_diagnostics.specs.Diagnostics.{IsLimitEntry, entries}
use Rattle.graphql_diagnostics.specs.Reports.{ReportsWithin}
use Rattle.graphql_documents.specs.Selections.{fragments_of}
use Rattle.graphql_operations.specs.DeferLabels.{DeferEntryReport}
use Rattle.graphql_operations.proofs.defer.check_operations.Given as goal

abbrev pub invariant-loop-operation : goal.invariant-loop-operation
invariant-loop-operation l =
    ReportsWithin IsLimitEntry (All (λ o. OperationDeferHolds (fragments_of l.document) o.now.value.value) (take l.operation-index l.operation-items))
    (DeferEntryReport l.document) (entries l.initial.diagnostics) (entries l.diagnostics)
