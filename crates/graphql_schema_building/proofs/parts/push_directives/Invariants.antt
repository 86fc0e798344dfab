use Rattle.std.proofs.Common.{◌≡◌, ◌++◌, map}
use Rattle.graphql_schema_building.proofs.parts.push_directives.Given as goal

abbrev pub invariant-loop-node : goal.invariant-loop-node
invariant-loop-node l = l.directives.items ≡ l.initial.directives.items ++ map (λ node. record { origin = l.origin; node = node }) l.yielded
