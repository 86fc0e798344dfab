-- Levels of the directive definitions and the types of a schema. Specification: 3.13 Directives.
use Rattle.std.specs.Prelude.{◌≡◌, ℕ, Option, Some, option_map}
use Rattle.graphql_nodes.specs.Names.{NameText}
use Rattle.graphql_documents.specs.Directives.{directive_definition}
use Rattle.graphql_documents.specs.Schemas.{type_definition}
use Rattle.graphql_documents.specs.declared.documents.schemas.Schema.{Schema}
use Rattle.graphql_specification.specs.DirectiveCycles.{PartRefersBy, SchemaPart, SchemaReference, by_directive, by_type, directive_part, part_of, type_part}
use Rattle.graphql_name_tables.specs.Places.{place_under}
use Rattle.graphql_cycles.specs.Levels.{AreBelow, AreLevels, IsLower, LeadsLower}
use Rattle.graphql_cycles.specs.References.{reference_of}
use Rattle.graphql_cycles.specs.declared.directive_levels.PartLevels.{PartLevels}
use Rattle.graphql_cycles.specs.declared.schema_references.Reference.{Reference}

-- the level of the directive definition or the type to which a reference leads
abbrev pub reference_level : PartLevels → SchemaReference → Option ℕ
reference_level levels (by_directive d) = place_under levels.directives d.value.value.name
reference_level levels (by_type name) = place_under levels.types name

-- what a reference names has a lower level than this
pub record ReferenceIsLower (levels : PartLevels) (bound : ℕ) (reference : Reference) : Type 0 where
  pub lower : IsLower (reference_level levels) bound (reference_of reference)

-- the definition refers only to such of lower levels than this
abbrev pub PartLeadsLower : PartLevels → ℕ → SchemaPart → Type 0
PartLeadsLower levels bound part = LeadsLower (reference_level levels) PartRefersBy part bound

-- these are levels of the definitions of a schema, none as high as this
pub record ArePartLevels (schema : Schema) (levels : PartLevels) (most : ℕ) : Type 0 where
  pub lower : AreLevels (reference_level levels) PartRefersBy (part_of schema)
  pub directives_below : AreBelow levels.directives most
  pub types_below : AreBelow levels.types most

-- the directive definition under the name, if there is one, leads lower
abbrev pub DirectiveLeadsLowerUnder : Schema → PartLevels → ℕ → NameText → Type 0
DirectiveLeadsLowerUnder schema levels bound name =
    (d : SchemaPart) → option_map directive_part (directive_definition schema name) ≡ Some d → PartLeadsLower levels bound d

-- so does the type under the name
abbrev pub TypeLeadsLowerUnder : Schema → PartLevels → ℕ → NameText → Type 0
TypeLeadsLowerUnder schema levels bound name =
    (d : SchemaPart) → option_map type_part (type_definition schema name) ≡ Some d → PartLeadsLower levels bound d
