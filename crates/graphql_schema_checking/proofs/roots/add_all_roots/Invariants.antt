use Rattle.std.proofs.Common.{◌≡◌, ◌++◌, map, take}
use Rattle.graphql_schema_checking.specs.SchemaBuilds.{named_roots}
use Rattle.graphql_repetitions.specs.References.{nows}
use Rattle.graphql_schema_checking.proofs.roots.add_all_roots.Given as goal

abbrev pub invariant-loop-schema : goal.invariant-loop-schema
invariant-loop-schema l = l.places.items ≡ l.initial.places.items ++ map (λ name. name.location) (named_roots l.operation_type (nows (take l.schema-index l.schemas)))
