use Rattle.std.proofs.Common.{take}
use Rattle.std.specs.Prelude.{Any}
use Rattle.graphql_usage_rules.specs.Scopes.{Adds, SelectionHasVariable, values_at}
use Rattle.graphql_usage_rules.proofs.scopes.+selection.Given as goal

abbrev pub invariant-add_in_selection_set-loop-selection : goal.invariant-add_in_selection_set-loop-selection
invariant-add_in_selection_set-loop-selection l =
    Adds (λ v. Any (λ s. SelectionHasVariable s v) (take l.selection-index l.selection-items)) (values_at l.initial.variables.items) (values_at l.variables.items)
