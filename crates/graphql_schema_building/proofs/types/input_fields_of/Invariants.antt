use Rattle.std.proofs.Common.{take}
use Rattle.graphql_leaf_building.specs.Definitions.{InputValueSays}
use Rattle.graphql_schema_building.specs.Parts.{EntriesSay, listed_by}
use Rattle.graphql_schema_building.specs.TypeParts.{originated}
use Rattle.graphql_schema_building.specs.TypesSay.{written_input_fields}
use Rattle.graphql_schema_building.proofs.types.input_fields_of.Given as goal

abbrev pub invariant-loop-part : goal.invariant-loop-part
invariant-loop-part l = EntriesSay (λ x. x.name) InputValueSays (listed_by written_input_fields (originated (take l.part-index l.parts))) l.input_fields.entries
