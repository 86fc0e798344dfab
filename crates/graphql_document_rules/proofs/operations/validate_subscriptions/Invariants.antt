-- What was said of the operations so far.
use Rattle.std.proofs.Common.{All, take}
use Rattle.graphql_diagnostics.specs.Diagnostics.{IsLimitEntry, entries}
use Rattle.graphql_diagnostics.specs.Reports.{ReportsWithin}
use Rattle.graphql_document_rules.specs.SingleRootField.{OperationRootHolds}
use Rattle.graphql_document_rules.proofs.RuleReportLemmas.{FixedEntryReport}
use Rattle.graphql_document_rules.proofs.operations.validate_subscriptions.Given as goal

abbrev pub invariant-loop-operation : goal.invariant-loop-operation
invariant-loop-operation l =
    ReportsWithin IsLimitEntry (All (λ o. OperationRootHolds l.schema l.document o.now.value.value) (take l.operation-index l.operations))
    (FixedEntryReport l.schema l.document) (entries l.initial.diagnostics) (entries l.diagnostics)
