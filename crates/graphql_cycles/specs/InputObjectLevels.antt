-- Levels of the input objects of a schema. Specification: 3.10 Input Objects, Circular References.
use Rattle.std.specs.Prelude.{◌≡◌, ℕ, Option, Some, IsSome}
use Rattle.std.specs.Borrow.{Bor}
use Rattle.std.specs.HashMap.{HashMap}
use Rattle.graphql_nodes.specs.Names.{NameText}
use Rattle.graphql_nodes.specs.declared.nodes.Node.{Node}
use Rattle.graphql_documents.specs.Schemas.{input_object_named}
use Rattle.graphql_documents.specs.TypeReferences.{inner_named_type}
use Rattle.graphql_documents.specs.declared.documents.definitions.InputValueDefinition.{InputValueDefinition}
use Rattle.graphql_documents.specs.declared.documents.schemas.InputObjectType.{InputObjectType}
use Rattle.graphql_documents.specs.declared.documents.schemas.Schema.{Schema}
use Rattle.graphql_specification.specs.InputObjectCycles.{RequiresBy, input_object_of}
use Rattle.graphql_name_tables.specs.Places.{place_under}
use Rattle.graphql_cycles.specs.Levels.{AreBelow, AreLevels, IsLower, LeadsLower}

module _ {S : Type 0} (levels : HashMap (Bor NameText) ℕ S) where
  -- the level of the type of a field
  abbrev pub field_level : Node InputValueDefinition → Option ℕ
  field_level field = place_under levels (inner_named_type field.value.value.ty.value.value)

  module _ (schema : Schema) where
    -- the field requires no input object, or one of a lower level than this
    pub record FieldLeadsLower (bound : ℕ) (field : Node InputValueDefinition) : Type 0 where
      pub lower : IsSome (input_object_of schema field) → IsLower field_level bound field

    -- the input object requires only such of lower levels than this
    abbrev pub RequiresLower : ℕ → Node InputObjectType → Type 0
    RequiresLower bound d = LeadsLower field_level (RequiresBy schema) d bound

    -- so does the input object under the name, if there is one
    abbrev pub RequiresLowerUnder : ℕ → NameText → Type 0
    RequiresLowerUnder bound name = (d : Node InputObjectType) → input_object_named schema name ≡ Some d → RequiresLower bound d

    -- these are levels of input objects, none as high as this
    pub record AreInputObjectLevels (most : ℕ) : Type 0 where
      pub lower : AreLevels field_level (RequiresBy schema) (input_object_of schema)
      pub below : AreBelow levels most
