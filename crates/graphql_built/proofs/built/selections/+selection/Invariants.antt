use Rattle.std.proofs.Common.{All, take}
use Rattle.graphql_built.specs.BuiltSelections.{SelectionIsBuilt}
use Rattle.graphql_built.proofs.built.selections.+selection.Given as goal

abbrev pub invariant-sets_are_built-loop-selection : goal.invariant-sets_are_built-loop-selection
invariant-sets_are_built-loop-selection l =
    All (SelectionIsBuilt l.schema l.set.ty) (take l.selection-index l.selection-items)
