use Rattle.std.proofs.Common.{◌≡◌, ◌+◌, ◌++◌, take}
use Rattle.std.specs.Prelude.{filter_map}
use Rattle.graphql_schema_building.specs.Numbered.{schema_originated}
use Rattle.graphql_schema_building.specs.Parts.{as_schema_extension, as_type_extension, numbered_from}
use Rattle.graphql_schema_building.specs.TypeParts.{originated}
use Rattle.graphql_schema_building.proofs.numbered.NumberedExtensions.add_all.Given as goal

abbrev pub invariant-loop-definition : goal.invariant-loop-definition
invariant-loop-definition l = record {
  passed : l.self.passed ≡ l.initial.self.passed + l.definition-index;
  types : originated l.self.types.items ≡
      originated l.initial.self.types.items ++ filter_map as_type_extension (numbered_from l.initial.self.passed (take l.definition-index l.definitions));
  schemas : schema_originated l.self.schemas.items ≡
      schema_originated l.initial.self.schemas.items ++ filter_map as_schema_extension (numbered_from l.initial.self.passed (take l.definition-index l.definitions));
}
