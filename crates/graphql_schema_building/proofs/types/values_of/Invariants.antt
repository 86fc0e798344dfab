use Rattle.std.proofs.Common.{take}
use Rattle.graphql_leaf_building.specs.Definitions.{EnumValueSays}
use Rattle.graphql_schema_building.specs.Parts.{EntriesSay, listed_by}
use Rattle.graphql_schema_building.specs.TypeParts.{originated}
use Rattle.graphql_schema_building.specs.TypesSay.{written_values}
use Rattle.graphql_schema_building.proofs.types.values_of.Given as goal

abbrev pub invariant-loop-part : goal.invariant-loop-part
invariant-loop-part l = EntriesSay (λ x. x.name) EnumValueSays (listed_by written_values (originated (take l.part-index l.parts))) l.values.entries
