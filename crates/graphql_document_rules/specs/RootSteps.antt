-- What holds of single root selections of a subscription, for the contracts of its checks.
use Rattle.std.specs.Prelude.{◌≡◌, ◌⊎◌, Result}
use Rattle.graphql_specification.specs.Subscriptions.{SubscriptionLimit}
use Rattle.graphql_diagnostics.specs.Reports.{Checks}
use Rattle.graphql_documents.specs.Selections.{Fragments, InExpandedSet}
use Rattle.graphql_diagnostics.specs.declared.lists.DiagnosticEntry.{DiagnosticEntry}
use Rattle.graphql_diagnostics.specs.declared.lists.DiagnosticList.{DiagnosticList}
use Rattle.graphql_documents.specs.declared.documents.executables.Operation.{Operation}
use Rattle.graphql_documents.specs.declared.documents.executables.Selection.{Selection}
use Rattle.graphql_documents.specs.declared.documents.schemas.Schema.{Schema}
use Rattle.graphql_nodes.specs.declared.nodes.Node.{Node}
use Rattle.graphql_nodes.specs.declared.operation_types.OperationType.TheVariants.{Subscription}
use Rattle.graphql_document_rules.specs.SingleRootField.{SubscriptionRootReport}

-- an entry is a diagnostic of the subscription
abbrev pub RootRuleReport : Schema → Fragments → Node Operation → DiagnosticEntry → Type 0
RootRuleReport schema fragments o e = SubscriptionRootReport schema fragments o e.details e.location

-- it is one, or says that the walk over the root passes its limit
abbrev pub RootEntryReport : Schema → Fragments → Node Operation → DiagnosticEntry → Type 0
RootEntryReport schema fragments o e =
    SubscriptionRootReport schema fragments o e.details e.location ⊎ SubscriptionLimit fragments o.value.value e.details e.location

-- a call that checks a rule of a subscription at one of its root selections
abbrev pub ChecksAtRoot : {T E : Type 0} → Result T E → (Selection → Type 0) → Node Operation → Selection → DiagnosticList → DiagnosticList → Type 0
ChecksAtRoot result Holds o s old new =
    (schema : Schema) (fragments : Fragments) → o.value.value.operation_type ≡ Subscription → InExpandedSet fragments o.value.value.selection_set s →
    Checks result (Holds s) (RootRuleReport schema fragments o) old new
