use Rattle.std.proofs.Common.{◌≡◌, ◌++◌, map, take}
use Rattle.graphql_specification.specs.Defer.{defers}
use Rattle.graphql_operations.proofs.defer.written.add_defers.Given as goal

abbrev pub invariant-loop-directive : goal.invariant-loop-directive
invariant-loop-directive l = map (λ d. d.now) l.visited.items ≡ map (λ d. d.now) l.initial.visited.items ++ defers (take l.directive-index l.directives)
