-- Ranks of the directive definitions and the types of a schema: none refers to one of a higher rank. Specification: 3.13 Directives.
use Rattle.std.specs.Prelude.{◌≡◌, ◌+◌, ℕ, Option, Some}
use Rattle.graphql_nodes.specs.Names.{NameText}
use Rattle.graphql_nodes.specs.declared.nodes.Node.{Node}
use Rattle.graphql_documents.specs.declared.documents.definitions.DirectiveDefinition.{DirectiveDefinition}
use Rattle.graphql_documents.specs.declared.documents.schemas.ExtendedType.{ExtendedType}
use Rattle.graphql_documents.specs.declared.documents.schemas.Schema.{Schema}
use Rattle.graphql_specification.specs.DirectiveCycles.{SchemaPart, SchemaReference, directive_part, part_of, type_part}
use Rattle.graphql_name_tables.specs.Places.{place_under}
use Rattle.graphql_cycles.specs.DirectiveLevels.{PartLeadsLower, reference_level}
use Rattle.graphql_cycles.specs.declared.directive_levels.PartLevels.{PartLevels}

-- a definition of this rank, if it has one, refers only to such as have ranks, none of which is higher
abbrev pub LeadsNoHigher : PartLevels → Option ℕ → SchemaPart → Type 0
LeadsNoHigher ranks rank part = (i : ℕ) → rank ≡ Some i → PartLeadsLower ranks (i + 1) part

-- so does the directive definition of an entry, and the type of an entry
abbrev pub DirectiveEntryLeadsNoHigher : PartLevels → NameText × Node DirectiveDefinition → Type 0
DirectiveEntryLeadsNoHigher ranks entry = LeadsNoHigher ranks (place_under ranks.directives entry.0) (directive_part entry.1)

abbrev pub TypeEntryLeadsNoHigher : PartLevels → NameText × ExtendedType → Type 0
TypeEntryLeadsNoHigher ranks entry = LeadsNoHigher ranks (place_under ranks.types entry.0) (type_part entry.1)

-- these are ranks of the definitions of a schema
pub record ArePartRanks (schema : Schema) (ranks : PartLevels) : Type 0 where
  pub no_higher : (r : SchemaReference) (part : SchemaPart) → part_of schema r ≡ Some part → LeadsNoHigher ranks (reference_level ranks r) part
