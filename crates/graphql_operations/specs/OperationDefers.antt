-- The rules of `@defer` in one operation, for the contracts of their checks.
use Rattle.std.specs.Prelude.{◌≡◌, ◌≢◌, Bool, true, false, List, None, Option, All, Contains, IsTrue, codes}
use Rattle.std.specs.Borrow.{Bor}
use Rattle.std.specs.Str.{bytes_eq}
use Rattle.graphql_specification.specs.Defer.{CanBeDisabled, Open, defers, HasDeferAtRoot, HasFixedDefer}
use Rattle.graphql_documents.specs.Selections.{Fragments, InExpandedSet, directives_of}
use Rattle.graphql_documents.specs.Walks.{PassesDepth, Walk, open_walk, root_walk}
use Rattle.graphql_diagnostics.specs.declared.build_errors.BuildError.TheVariants as build
use Rattle.graphql_diagnostics.specs.declared.build_errors.BuildError.{BuildError}
use Rattle.graphql_diagnostics.specs.declared.data.DiagnosticData.TheVariants as report
use Rattle.graphql_diagnostics.specs.declared.details.Details.TheVariants as details
use Rattle.graphql_diagnostics.specs.declared.details.Details.{Details}
use Rattle.graphql_diagnostics.specs.declared.lists.DiagnosticEntry.{DiagnosticEntry}
use Rattle.graphql_nodes.specs.declared.operation_types.OperationType.TheVariants as operation
use Rattle.graphql_nodes.specs.declared.operation_types.OperationType.{OperationType}
use Rattle.graphql_documents.specs.declared.documents.directives.Directive.{Directive}
use Rattle.graphql_documents.specs.declared.documents.executables.Operation.{Operation}
use Rattle.graphql_documents.specs.declared.documents.executables.Selection.TheOpen as layer
use Rattle.graphql_documents.specs.declared.documents.executables.Selection.{Selection, out-Selection}
use Rattle.graphql_documents.specs.declared.documents.executables.SelectionSet.{SelectionSet}
use Rattle.graphql_nodes.specs.declared.nodes.Node.{Node}
use Rattle.graphql_nodes.specs.declared.spans.SourceSpan.{SourceSpan}
use Rattle.graphql_operations.specs.declared.defer.rules.DeferRule.TheVariants as rule
use Rattle.graphql_operations.specs.declared.defer.rules.DeferRule.{DeferRule}

-- a diagnostic of `@defer` is true of an operation
pub data OperationDeferReport (fragments : Fragments) (o : Operation) : Details → Option SourceSpan → Type 0 where
  stands_at_root : {operation_type : OperationType} {at : Option SourceSpan} → HasDeferAtRoot fragments o operation_type at →
      OperationDeferReport fragments o (details.Build (build.DeferOnRootMutationOrSubscriptionField operation_type)) at
  is_fixed : {at : Option SourceSpan} → HasFixedDefer fragments o at →
      OperationDeferReport fragments o (details.Build build.DeferInSubscriptionMustBeConditional) at

-- and a diagnostic of a limit: one of the walks that are taken of such an operation passes its limit
pub data OperationDeferLimit (fragments : Fragments) (o : Operation) : Details → Option SourceSpan → Type 0 where
  root_walk_passes : o.operation_type ≢ operation.Query → PassesDepth fragments root_walk o.selection_set →
      OperationDeferLimit fragments o (details.Diagnostic report.RecursionError) None
  open_walk_passes : o.operation_type ≡ operation.Subscription → PassesDepth fragments open_walk o.selection_set →
      OperationDeferLimit fragments o (details.Diagnostic report.RecursionError) None

-- the walk of a rule, and the selections that it meets
abbrev pub walk_of : DeferRule → Walk
walk_of (rule.NotAtRoot operation_type) = root_walk
walk_of rule.CanBeDisabled = open_walk

abbrev pub IsVisited : DeferRule → Fragments → SelectionSet → Selection → Type 0
IsVisited (rule.NotAtRoot operation_type) = InExpandedSet
IsVisited rule.CanBeDisabled = Open

-- the rule is about the selection
abbrev pub is_no_field : Selection → Bool
is_no_field s = elim (out-Selection s) [
  | layer.Field f ↦ false
  | layer.FragmentSpread p ↦ true
  | layer.InlineFragment i ↦ true
]

abbrev pub concerns : DeferRule → Selection → Bool
concerns (rule.NotAtRoot operation_type) s = is_no_field s
concerns rule.CanBeDisabled s = true

-- a `@defer` meets the rule
abbrev pub Meets : DeferRule → Node Directive → Type 0
Meets (rule.NotAtRoot operation_type) d = ⊥
Meets rule.CanBeDisabled d = CanBeDisabled d

-- what is reported of one that does not
abbrev pub broken_by : DeferRule → BuildError
broken_by (rule.NotAtRoot operation_type) = build.DeferOnRootMutationOrSubscriptionField operation_type
broken_by rule.CanBeDisabled = build.DeferInSubscriptionMustBeConditional

-- the directive is `@defer`
abbrev pub is_defer : Node Directive → Bool
is_defer d = bytes_eq d.value.value.name.text (codes "defer")

-- a directive meets the rule, if it is `@defer`
abbrev pub MeetsIfDeferred : DeferRule → Node Directive → Type 0
MeetsIfDeferred r d = IsTrue (is_defer d) → Meets r d

-- a `@defer` among these directives breaks the rule: reported there
pub record DirectivesDeferReport (r : DeferRule) (directives : List (Node Directive)) (e : DiagnosticEntry) : Type 0 where
  pub d : Node Directive
  pub deferred : Contains (defers directives) d
  pub breaks : ¬ Meets r d
  pub details_are : e.details ≡ details.Build (broken_by r)
  pub at_is : e.location ≡ d.location

-- the rule holds of a selection, or one of its directives breaks it
abbrev pub HoldsAt : DeferRule → Selection → Type 0
HoldsAt r s = IsTrue (concerns r s) → All (Meets r) (defers (directives_of s))

abbrev pub SelectionDeferReport : DeferRule → Selection → DiagnosticEntry → Type 0
SelectionDeferReport r s e = IsTrue (concerns r s) × DirectivesDeferReport r (directives_of s) e

-- one of these selections breaks it
abbrev pub SelectionsDeferReport : DeferRule → List (Bor Selection) → DiagnosticEntry → Type 0
SelectionsDeferReport r selections e = (s : Bor Selection) × Contains selections s × SelectionDeferReport r s.now e

-- the rule holds of what is visited from a set, or is broken there, or its walk passes its limit
abbrev pub RuleHolds : DeferRule → Fragments → SelectionSet → Type 0
RuleHolds r fragments set = (s : Selection) → IsVisited r fragments set s → HoldsAt r s

abbrev pub DeferRuleReport : DeferRule → Fragments → SelectionSet → DiagnosticEntry → Type 0
DeferRuleReport r fragments set e = (s : Selection) × IsVisited r fragments set s × SelectionDeferReport r s e

pub record RuleLimit (r : DeferRule) (fragments : Fragments) (set : SelectionSet) (e : DiagnosticEntry) : Type 0 where
  pub passes : PassesDepth fragments (walk_of r) set
  pub details_are : e.details ≡ details.Diagnostic report.RecursionError
  pub at_is : e.location ≡ None
