use Rattle.std.proofs.Common.{take}
use Rattle.graphql_usage_rules.specs.Scopes.{Adds, values_at}
use Rattle.graphql_usage_rules.specs.UndefinedVariables.{VariableInDirectives}
use Rattle.graphql_usage_rules.proofs.scopes.add_in_directives.Given as goal

abbrev pub invariant-loop-directive : goal.invariant-loop-directive
invariant-loop-directive l =
    Adds (VariableInDirectives (take l.directive-index l.directives)) (values_at l.initial.variables.items) (values_at l.variables.items)
