use Rattle.std.proofs.Common.{◌≡◌, ◌++◌, map, take}
use Rattle.graphql_schema_checking.specs.SchemaBuilds.{roots_of_kind}
use Rattle.graphql_schema_checking.proofs.roots.add_roots.Given as goal

abbrev pub invariant-loop-root : goal.invariant-loop-root
invariant-loop-root l = l.places.items ≡ l.initial.places.items ++ map (λ name. name.location) (roots_of_kind l.operation_type (take l.root-index l.roots))
