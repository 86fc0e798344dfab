use Rattle.std.proofs.Common.{◌≡◌, ◌++◌, map, take}
use Rattle.graphql_repetitions.specs.References.{nows}
use Rattle.graphql_schema_checking.specs.Definitions.{name_of}
use Rattle.graphql_dialects.proofs.definitions.add_type_names.Given as goal

abbrev pub invariant-loop-definition : goal.invariant-loop-definition
invariant-loop-definition l = nows l.names.items ≡ nows l.initial.names.items ++ map name_of (nows (take l.definition-index l.definitions))
