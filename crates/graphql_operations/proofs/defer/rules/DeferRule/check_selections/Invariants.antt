use Rattle.std.proofs.Common.{All, take}
use Rattle.graphql_diagnostics.specs.Diagnostics.{entries}
use Rattle.graphql_diagnostics.specs.Reports.{Reports}
use Rattle.graphql_operations.specs.OperationDefers.{SelectionsDeferReport, HoldsAt}
use Rattle.graphql_operations.proofs.defer.rules.DeferRule.check_selections.Given as goal

-- each `@defer` on the selections so far that breaks the rule is reported
abbrev pub invariant-loop-selection : goal.invariant-loop-selection
invariant-loop-selection l =
    Reports (All (λ s. HoldsAt l.self s.now) (take l.selection-index l.selections)) (SelectionsDeferReport l.self l.selections)
    (entries l.initial.diagnostics) (entries l.diagnostics)
