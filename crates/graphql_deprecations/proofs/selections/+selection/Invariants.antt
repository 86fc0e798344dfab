use Rattle.std.proofs.Common.{take}
use Rattle.graphql_deprecations.specs.InOrder.{Adds, SelectionsUse}
use Rattle.graphql_deprecations.proofs.selections.+selection.Given as goal

abbrev pub invariant-add_in_selection_set-loop-selection :
    goal.invariant-add_in_selection_set-loop-selection
invariant-add_in_selection_set-loop-selection l =
    Adds (SelectionsUse l.schema l.set.ty (take l.selection-index l.selection-items)) l.initial.found.items l.found.items
