use Rattle.std.proofs.Common.{◌≡◌, ◌++◌, map, take}
use Rattle.graphql_specification.specs.DirectiveCycles.{by_directive}
use Rattle.graphql_cycles.specs.References.{reference_of}
use Rattle.graphql_cycles.proofs.schema_references.add_directives.Given as goal

abbrev pub invariant-loop-directive : goal.invariant-loop-directive
invariant-loop-directive l =
    map reference_of l.found.items ≡ map reference_of l.initial.found.items ++ map by_directive (take l.directive-index l.directives)
