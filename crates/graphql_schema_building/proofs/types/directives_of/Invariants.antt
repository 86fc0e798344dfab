use Rattle.std.proofs.Common.{take}
use Rattle.graphql_leaf_building.specs.Directives.{DirectiveSays}
use Rattle.graphql_schema_building.specs.Parts.{ComponentsSay, listed_by}
use Rattle.graphql_schema_building.specs.TypeParts.{originated}
use Rattle.graphql_schema_building.specs.TypesSay.{written_directives}
use Rattle.graphql_schema_building.proofs.types.directives_of.Given as goal

abbrev pub invariant-loop-part : goal.invariant-loop-part
invariant-loop-part l = ComponentsSay DirectiveSays (listed_by written_directives (originated (take l.part-index l.parts))) l.directives.items
