use Rattle.std.proofs.Common.{take}
use Rattle.graphql_documents.specs.VariableUses.{StandsInArguments}
use Rattle.graphql_variables.specs.Uses.{NamesAlso}
use Rattle.graphql_variables.proofs.uses.add_in_arguments.Given as goal

abbrev pub invariant-loop-argument : goal.invariant-loop-argument
invariant-loop-argument l =
    NamesAlso (λ name. StandsInArguments name (take l.argument-index l.arguments)) l.initial.names.items l.names.items
