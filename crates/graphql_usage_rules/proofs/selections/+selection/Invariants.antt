use Rattle.std.proofs.Common.{take}
use Rattle.graphql_usage_rules.specs.Parts.{SelectionUses}
use Rattle.graphql_usage_rules.proofs.PlaceLemmas.{WalkedTo}
use Rattle.graphql_usage_rules.proofs.selections.+selection.Given as goal

abbrev pub invariant-check_selection_set-loop-selection :
    goal.invariant-check_selection_set-loop-selection
invariant-check_selection_set-loop-selection l =
    WalkedTo l.variables (SelectionUses l.schema) l.selection-items (take l.selection-index l.selection-items) l.initial.reports.kept.items l.reports.kept.items
