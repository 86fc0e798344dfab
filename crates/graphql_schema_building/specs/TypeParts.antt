-- The parts of a type, as the code has them.
use Rattle.std.specs.Prelude.{List, map}
use Rattle.graphql_trees.specs.declared.type_system.TypeDefinition.{TypeDefinition}
use Rattle.graphql_schema_building.specs.Parts.{Originated}
use Rattle.graphql_schema_building.specs.declared.types.TypePart.{TypePart}

-- the parts, each with its origin
abbrev pub originated : List TypePart → List (Originated TypeDefinition)
originated parts = map (λ part. (part.origin, part.definition.now)) parts
