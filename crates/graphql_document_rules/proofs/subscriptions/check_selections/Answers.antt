use Rattle.std.proofs.Common.{Bor, refl}
use Rattle.std.proofs.lemmas.Result.{MatchResult-from_err}
use Rattle.graphql_documents.specs.Selections.{InExpandedSet}
use Rattle.graphql_documents.specs.declared.documents.executables.Selection.{Selection}
use Rattle.graphql_diagnostics.proofs.ReportLemmas.{both, kept_by, kept_then, walked_all, walked_more}
use Rattle.graphql_operations.specs.Subscriptions.{RootSelectionHolds}
use Rattle.graphql_document_rules.specs.RootSteps.{RootRuleReport}
use Rattle.graphql_operations.proofs.SubscriptionLemmas.{each_next}
use Rattle.graphql_document_rules.proofs.subscriptions.check_selections.Goals as goal

pub returns-in_err-check_introspection : goal.returns-in_err-check_introspection
returns-in_err-check_introspection c = λ schema fragments is_one all.
    let inside = each_next (λ (s : Bor Selection). InExpandedSet fragments c.args.operation.now.value.value.selection_set s.now) c.args.selections.now c.loop-selection.selection-index c.selection-item.result c.loop-selection-test.true c.selection-item.is all in
    MatchResult-from_err _ _ _ c.from_residual.ensures.0
    (λ y. kept_then (kept_by (c.loop-selection.invariant schema fragments is_one all)) (c.in_err-check_introspection.ensures schema fragments is_one inside))

pub returns-in_err-check_condition : goal.returns-in_err-check_condition
returns-in_err-check_condition c = λ schema fragments is_one all.
    let inside = each_next (λ (s : Bor Selection). InExpandedSet fragments c.args.operation.now.value.value.selection_set s.now) c.args.selections.now c.loop-selection.selection-index c.selection-item.result c.loop-selection-test.true c.selection-item.is all in
    MatchResult-from_err _ _ _ c.from_residual-in_err-check_condition.ensures.0
    (λ y. kept_then (kept_then (kept_by (c.loop-selection.invariant schema fragments is_one all)) (kept_by (c.in_ok-check_introspection.ensures schema fragments is_one inside)))
    (c.in_err-check_condition.ensures schema fragments is_one inside))

pub loop-selection-preserved : goal.loop-selection-preserved
loop-selection-preserved c = λ schema fragments is_one all.
    let inside = each_next (λ (s : Bor Selection). InExpandedSet fragments c.args.operation.now.value.value.selection_set s.now) c.args.selections.now c.loop-selection.selection-index c.selection-item.result c.loop-selection-test.true c.selection-item.is all in
    walked_more (λ (s : Bor Selection). RootSelectionHolds s.now) (RootRuleReport schema fragments c.args.operation.now) c.args.selections.now c.loop-selection.selection-index c.selection-item.result
    _ _ _ c.loop-selection-test.true c.selection-item.is (c.loop-selection.invariant schema fragments is_one all)
    (both (c.in_ok-check_introspection.ensures schema fragments is_one inside) (c.in_ok-check_condition.ensures schema fragments is_one inside))

pub returns : goal.returns
returns c = λ schema fragments is_one all.
    walked_all (λ (s : Bor Selection). RootSelectionHolds s.now) (RootRuleReport schema fragments c.args.operation.now) c.args.selections.now c.loop-selection.selection-index c.args.selections.now
    _ _ refl c.loop-selection-test.false (c.loop-selection.invariant schema fragments is_one all)
