use Rattle.std.proofs.Common.{◌≡◌, take}
use Rattle.std.specs.Prelude.{find, None}
use Rattle.graphql_schema_checking.specs.SchemaBuilds.{is_default_root}
use Rattle.graphql_repetitions.specs.References.{nows}
use Rattle.graphql_schema_checking.proofs.roots.default_root.Given as goal

abbrev pub invariant-loop-definition : goal.invariant-loop-definition
invariant-loop-definition l = find (is_default_root l.operation_type) (nows (take l.definition-index l.types)) ≡ None
