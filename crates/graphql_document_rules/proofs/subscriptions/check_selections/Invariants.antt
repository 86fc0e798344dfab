use Rattle.std.proofs.Common.{◌≡◌, All, take}
use Rattle.graphql_diagnostics.specs.Diagnostics.{entries}
use Rattle.graphql_diagnostics.specs.Reports.{Reports}
use Rattle.graphql_documents.specs.Selections.{Fragments, InExpandedSet}
use Rattle.graphql_nodes.specs.declared.operation_types.OperationType.TheVariants.{Subscription}
use Rattle.graphql_documents.specs.declared.documents.schemas.Schema.{Schema}
use Rattle.graphql_operations.specs.Subscriptions.{RootSelectionHolds}
use Rattle.graphql_document_rules.specs.RootSteps.{RootRuleReport}
use Rattle.graphql_document_rules.proofs.subscriptions.check_selections.Given as goal

abbrev pub invariant-loop-selection : goal.invariant-loop-selection
invariant-loop-selection l =
    (schema : Schema) (fragments : Fragments) → l.operation.value.value.operation_type ≡ Subscription →
    All (λ s. InExpandedSet fragments l.operation.value.value.selection_set s.now) l.selections →
    Reports (All (λ s. RootSelectionHolds s.now) (take l.selection-index l.selections)) (RootRuleReport schema fragments l.operation)
    (entries l.initial.diagnostics) (entries l.diagnostics)
