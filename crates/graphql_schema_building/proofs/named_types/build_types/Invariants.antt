use Rattle.std.proofs.Common.{◌≡◌, List, take}
use Rattle.graphql_trees.specs.declared.documents.Definition.{Definition}
use Rattle.graphql_repetitions.specs.References.{nows}
use Rattle.graphql_schema_building.specs.Parts.{type_extension_parts}
use Rattle.graphql_schema_building.specs.SchemaSays.{TypesStand}
use Rattle.graphql_schema_building.specs.TypeParts.{originated}
use Rattle.graphql_schema_building.proofs.named_types.build_types.Given as goal

abbrev pub invariant-loop-definition : goal.invariant-loop-definition
invariant-loop-definition l = (definitions : List Definition) → originated l.extensions ≡ type_extension_parts definitions →
    TypesStand definitions (nows (take l.definition-index l.types)) l.built.entries
