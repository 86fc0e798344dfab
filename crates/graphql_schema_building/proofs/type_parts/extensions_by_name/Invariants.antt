use Rattle.std.proofs.Common.{take}
use Rattle.graphql_schema_building.specs.Steps.{FindsParts}
use Rattle.graphql_schema_building.specs.TypeParts.{originated}
use Rattle.graphql_schema_building.proofs.type_parts.extensions_by_name.Given as goal

abbrev pub invariant-loop-extension : goal.invariant-loop-extension
invariant-loop-extension l = FindsParts l.found (originated (take l.extension-index l.extensions))
