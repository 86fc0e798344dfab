use Rattle.std.proofs.Common.{take}
use Rattle.graphql_documents.specs.VariableUses.{StandsInDirectives}
use Rattle.graphql_variables.specs.Uses.{NamesAlso}
use Rattle.graphql_variables.proofs.uses.add_in_directives.Given as goal

abbrev pub invariant-loop-directive : goal.invariant-loop-directive
invariant-loop-directive l =
    NamesAlso (λ name. StandsInDirectives name (take l.directive-index l.directives)) l.initial.names.items l.names.items
