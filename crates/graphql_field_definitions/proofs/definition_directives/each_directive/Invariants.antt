use Rattle.std.proofs.Common.{◌≡◌, map, take}
use Rattle.graphql_field_definitions.proofs.definition_directives.each_directive.Given as goal

-- the directives so far
abbrev pub invariant-loop-directive : goal.invariant-loop-directive
invariant-loop-directive l = map (λ d. d.now) l.each.items ≡ map (λ c. c.node) (take l.directive-index l.directives)
