use Rattle.std.proofs.Common.{take}
use Rattle.graphql_deprecations.specs.InOrder.{Adds, ArgumentsUse, argument_element}
use Rattle.graphql_deprecations.proofs.arguments.add_in_arguments.Given as goal

abbrev pub invariant-loop-argument : goal.invariant-loop-argument
invariant-loop-argument l =
    Adds (ArgumentsUse l.schema (argument_element l.owner) l.definitions (take l.argument-index l.arguments)) l.initial.found.items l.found.items
