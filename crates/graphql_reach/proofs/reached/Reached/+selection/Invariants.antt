use Rattle.std.proofs.Common.{take}
use Rattle.std.specs.Prelude.{Any}
use Rattle.graphql_reach.specs.Written.{SelectionHas}
use Rattle.graphql_reach.specs.Reached.{AddsSpreads, SpreadsName}
use Rattle.graphql_reach.proofs.reached.Reached.+selection.Given as goal

abbrev pub invariant-add_in_set-loop-selection : goal.invariant-add_in_set-loop-selection
invariant-add_in_set-loop-selection l =
    AddsSpreads l.document (λ name. Any (λ s. SelectionHas SpreadsName s name) (take l.selection-index l.selection-items)) l.initial.self l.self
