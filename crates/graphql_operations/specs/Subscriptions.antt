-- What holds of single root selections of a subscription, for the contracts of its checks.
use Rattle.std.specs.Prelude.{◌≡◌, ◌⊎◌, Result, IsFalse}
use Rattle.graphql_specification.specs.Subscriptions.{SubscriptionLimit, SubscriptionReport, has_condition, is_introspection}
use Rattle.graphql_diagnostics.specs.Reports.{Checks}
use Rattle.graphql_documents.specs.Selections.{Fragments, InExpandedSet, directives_of}
use Rattle.graphql_diagnostics.specs.declared.lists.DiagnosticEntry.{DiagnosticEntry}
use Rattle.graphql_diagnostics.specs.declared.lists.DiagnosticList.{DiagnosticList}
use Rattle.graphql_nodes.specs.declared.operation_types.OperationType.TheVariants.{Subscription}
use Rattle.graphql_documents.specs.declared.documents.executables.Field.{Field}
use Rattle.graphql_documents.specs.declared.documents.executables.Operation.{Operation}
use Rattle.graphql_documents.specs.declared.documents.executables.Selection.TheVariants as kind
use Rattle.graphql_documents.specs.declared.documents.executables.Selection.{Selection}
use Rattle.graphql_nodes.specs.declared.nodes.Node.{Node}

-- the selection is no field of introspection
abbrev pub IsNoIntrospection : Selection → Type 0
IsNoIntrospection s = (f : Node Field) → s ≡ kind.Field f → IsFalse (is_introspection f.value.value.name)

-- it has no condition
abbrev pub IsUnconditional : Selection → Type 0
IsUnconditional s = IsFalse (has_condition (directives_of s))

-- it holds as a root selection
abbrev pub RootSelectionHolds : Selection → Type 0
RootSelectionHolds s = IsNoIntrospection s × IsUnconditional s

-- an entry is a diagnostic of the subscription
abbrev pub SubscriptionRuleReport : Fragments → Node Operation → DiagnosticEntry → Type 0
SubscriptionRuleReport fragments o e = SubscriptionReport fragments o e.details e.location

-- it is one, or says that the walk over the root passes its limit
abbrev pub SubscriptionEntryReport : Fragments → Node Operation → DiagnosticEntry → Type 0
SubscriptionEntryReport fragments o e =
    SubscriptionReport fragments o e.details e.location ⊎ SubscriptionLimit fragments o.value.value e.details e.location

-- a call that checks a rule of a subscription at one of its root selections
abbrev pub ChecksAtRoot : {T E : Type 0} → Result T E → (Selection → Type 0) → Node Operation → Selection → DiagnosticList → DiagnosticList → Type 0
ChecksAtRoot result Holds o s old new =
    (fragments : Fragments) → o.value.value.operation_type ≡ Subscription → InExpandedSet fragments o.value.value.selection_set s →
    Checks result (Holds s) (SubscriptionRuleReport fragments o) old new
