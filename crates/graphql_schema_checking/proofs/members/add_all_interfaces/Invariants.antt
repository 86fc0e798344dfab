use Rattle.std.proofs.Common.{◌≡◌, ◌++◌, take}
use Rattle.std.specs.Prelude.{flat_map}
use Rattle.graphql_schema_checking.specs.Definitions.{interface_names}
use Rattle.graphql_repetitions.specs.References.{nows}
use Rattle.graphql_schema_checking.proofs.members.add_all_interfaces.Given as goal

abbrev pub invariant-loop-part : goal.invariant-loop-part
invariant-loop-part l = nows l.names.items ≡ nows l.initial.names.items ++ flat_map interface_names (nows (take l.part-index l.parts))
