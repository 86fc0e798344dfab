-- The extensions of texts, as the code has them.
use Rattle.std.specs.Prelude.{◌≡◌, List, length, map}
use Rattle.graphql_trees.specs.declared.documents.Definition.{Definition}
use Rattle.graphql_trees.specs.declared.type_system.SchemaDefinition.{SchemaDefinition}
use Rattle.graphql_schema_building.specs.Parts.{Originated, schema_extension_parts, type_extension_parts}
use Rattle.graphql_schema_building.specs.TypeParts.{originated}
use Rattle.graphql_schema_building.specs.declared.numbered.NumberedExtensions.{NumberedExtensions}
use Rattle.graphql_schema_building.specs.declared.numbered.SchemaPart.{SchemaPart}

-- the parts of the schema, each with its origin
abbrev pub schema_originated : List SchemaPart → List (Originated SchemaDefinition)
schema_originated parts = map (λ part. (part.origin, part.definition.now)) parts

-- these are the extensions, each with its number
pub record AreNumbered (definitions : List Definition) (extensions : NumberedExtensions) : Type 0 where
  pub all_passed : extensions.passed ≡ length definitions
  pub types_are : originated extensions.types.items ≡ type_extension_parts definitions
  pub schemas_are : schema_originated extensions.schemas.items ≡ schema_extension_parts definitions
