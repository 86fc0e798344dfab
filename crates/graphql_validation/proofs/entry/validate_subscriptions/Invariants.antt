-- What was said of the operations so far.
use Rattle.std.proofs.Common.{All, take}
use Rattle.graphql_diagnostics.specs.Diagnostics.{IsLimitEntry, entries}
use Rattle.graphql_diagnostics.specs.Reports.{ReportsWithin}
use Rattle.graphql_documents.specs.declared.documents.schemas.Schema.{Schema}
use Rattle.graphql_specification.specs.Subscriptions.{OperationSubscriptionHolds}
use Rattle.graphql_validation.proofs.DocumentLemmas.{DocumentEntryReport}
use Rattle.graphql_validation.proofs.entry.validate_subscriptions.Given as goal
use Rattle.std.specs.Prelude.{Some}

abbrev pub invariant-loop-operation : goal.invariant-loop-operation
invariant-loop-operation l = (schema : Schema) →
    ReportsWithin IsLimitEntry (All (λ o. OperationSubscriptionHolds l.document o.now.value.value) (take l.operation-index l.operations))
    (DocumentEntryReport (Some schema) l.document) (entries l.initial.diagnostics) (entries l.diagnostics)
