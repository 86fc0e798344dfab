use Rattle.std.proofs.Common.{refl}
use Rattle.graphql_diagnostics.proofs.ReportLemmas.{checks-err, kept_by, kept_then, kept_wider, walked_all, walked_more, wider}
use Rattle.graphql_operations.proofs.OperationDeferLemmas.{item_stands}
use Rattle.graphql_operations.specs.OperationDefers.{SelectionsDeferReport, HoldsAt}
use Rattle.graphql_operations.proofs.defer.rules.DeferRule.check_selections.Goals as goal

pub returns-in_err-check_selection : goal.returns-in_err-check_selection
returns-in_err-check_selection c =
    let xs = c.args.selections.now in
    let s = c.selection-item.result in
    checks-err _ _ _ _ _ c.from_residual.ensures.0
    (kept_then (kept_by c.loop-selection.invariant)
    (kept_wider (λ e breaks. (s, item_stands xs c.loop-selection.selection-index s c.loop-selection-test.true c.selection-item.is, breaks)) c.in_err-check_selection.ensures))

pub loop-selection-preserved : goal.loop-selection-preserved
loop-selection-preserved c =
    let xs = c.args.selections.now in
    let i = c.loop-selection.selection-index in
    let s = c.selection-item.result in
    walked_more (λ s. HoldsAt c.args.self s.now) (SelectionsDeferReport c.args.self xs) xs i s _ _ _ c.loop-selection-test.true c.selection-item.is c.loop-selection.invariant
    (wider (λ e breaks. (s, item_stands xs i s c.loop-selection-test.true c.selection-item.is, breaks)) c.in_ok-check_selection.ensures)

pub returns : goal.returns
returns c =
    walked_all (λ s. HoldsAt c.args.self s.now) (SelectionsDeferReport c.args.self c.args.selections.now) c.args.selections.now c.loop-selection.selection-index _ _ _ refl
    c.loop-selection-test.false c.loop-selection.invariant
