use Rattle.std.proofs.Common.{take}
use Rattle.graphql_input_rules.specs.Selections.{SelectionWrites}
use Rattle.graphql_input_rules.proofs.PlaceLemmas.{WalkedTo}
use Rattle.graphql_input_rules.proofs.input_fields.+selection.Given as goal

abbrev pub invariant-check_selection_set-loop-selection :
    goal.invariant-check_selection_set-loop-selection
invariant-check_selection_set-loop-selection l =
    WalkedTo SelectionWrites l.selection-items (take l.selection-index l.selection-items) l.initial.reports.kept.items l.reports.kept.items
