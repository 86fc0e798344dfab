use Rattle.std.proofs.Common.{take}
use Rattle.graphql_deprecations.specs.InOrder.{Adds, DirectivesUse}
use Rattle.graphql_deprecations.proofs.arguments.add_in_directives.Given as goal

abbrev pub invariant-loop-directive : goal.invariant-loop-directive
invariant-loop-directive l = Adds (DirectivesUse l.schema (take l.directive-index l.directives)) l.initial.found.items l.found.items
