use Rattle.std.proofs.Common.{◌≡◌, take}
use Rattle.graphql_schema_checking.specs.Definitions.{interface_names}
use Rattle.graphql_schema_building.specs.Parts.{listed_by, names_said}
use Rattle.graphql_schema_building.specs.TypeParts.{originated}
use Rattle.graphql_schema_building.proofs.types.interfaces_of.Given as goal

abbrev pub invariant-loop-part : goal.invariant-loop-part
invariant-loop-part l = l.names.keys ≡ names_said (listed_by interface_names (originated (take l.part-index l.parts)))
