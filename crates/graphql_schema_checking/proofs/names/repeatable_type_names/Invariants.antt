use Rattle.std.proofs.Common.{◌≡◌, take}
use Rattle.graphql_schema_checking.specs.SchemaReports.{repeatable_type_names}
use Rattle.graphql_repetitions.specs.References.{nows}
use Rattle.graphql_schema_checking.proofs.names.repeatable_type_names.Given as goal

abbrev pub invariant-loop-definition : goal.invariant-loop-definition
invariant-loop-definition l = nows l.names.items ≡ repeatable_type_names (nows (take l.definition-index l.types))
