use Rattle.std.proofs.Common.{◌≡◌, take}
use Rattle.graphql_schema_building.specs.TypesSay.{written_members}
use Rattle.graphql_schema_building.specs.Parts.{listed_by, names_said}
use Rattle.graphql_schema_building.specs.TypeParts.{originated}
use Rattle.graphql_schema_building.proofs.types.members_of.Given as goal

abbrev pub invariant-loop-part : goal.invariant-loop-part
invariant-loop-part l = l.names.keys ≡ names_said (listed_by written_members (originated (take l.part-index l.parts)))
