use Rattle.std.proofs.Common.{◌≡◌, All, take}
use Rattle.graphql_diagnostics.specs.Diagnostics.{entries}
use Rattle.graphql_diagnostics.specs.Reports.{Reports}
use Rattle.graphql_documents.specs.Selections.{Fragments, InExpandedSet}
use Rattle.graphql_nodes.specs.declared.operation_types.OperationType.TheVariants.{Subscription}
use Rattle.graphql_operations.specs.Subscriptions.{RootSelectionHolds, SubscriptionRuleReport}
use Rattle.graphql_operations.proofs.subscription.check_selections.Given as goal

abbrev pub invariant-loop-selection : goal.invariant-loop-selection
invariant-loop-selection l =
    (fragments : Fragments) → l.operation.value.value.operation_type ≡ Subscription →
    All (λ s. InExpandedSet fragments l.operation.value.value.selection_set s.now) l.selections →
    Reports (All (λ s. RootSelectionHolds s.now) (take l.selection-index l.selections)) (SubscriptionRuleReport fragments l.operation)
    (entries l.initial.diagnostics) (entries l.diagnostics)
