use Rattle.std.proofs.Common.{◌≡◌, None, take}
use Rattle.graphql_schema_checking.specs.SchemaBuilds.{roots_of_kind}
use Rattle.graphql_schema_building.specs.SchemaSays.{first_of_list}
use Rattle.graphql_schema_building.proofs.roots.root_of_kind.Given as goal

abbrev pub invariant-loop-root : goal.invariant-loop-root
invariant-loop-root l = first_of_list (roots_of_kind l.operation_type (take l.root-index l.roots)) ≡ None
