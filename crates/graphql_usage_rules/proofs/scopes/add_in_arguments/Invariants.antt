use Rattle.std.proofs.Common.{take}
use Rattle.graphql_usage_rules.specs.Scopes.{Adds, values_at}
use Rattle.graphql_usage_rules.specs.UndefinedVariables.{VariableInArguments}
use Rattle.graphql_usage_rules.proofs.scopes.add_in_arguments.Given as goal

abbrev pub invariant-loop-argument : goal.invariant-loop-argument
invariant-loop-argument l =
    Adds (VariableInArguments (take l.argument-index l.arguments)) (values_at l.initial.variables.items) (values_at l.variables.items)
