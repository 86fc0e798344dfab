use Rattle.std.proofs.Common.{◌≡◌, ◌++◌, take}
use Rattle.graphql_repetitions.specs.References.{nows}
use Rattle.graphql_schema_checking.proofs.members.add_names.Given as goal

abbrev pub invariant-loop-name : goal.invariant-loop-name
invariant-loop-name l = nows l.names.items ≡ nows l.initial.names.items ++ take l.name-index l.more
