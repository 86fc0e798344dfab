use Rattle.std.proofs.Common.{take}
use Rattle.graphql_deprecations.specs.InOrder.{Adds, InTurn, VariableUses}
use Rattle.graphql_deprecations.proofs.usages.add_in_variables.Given as goal

abbrev pub invariant-loop-variable : goal.invariant-loop-variable
invariant-loop-variable l =
    Adds (InTurn (λ v. VariableUses l.schema v.value.value) (take l.variable-index l.variables)) l.initial.found.items l.found.items
