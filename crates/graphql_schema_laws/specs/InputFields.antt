-- The fields of input objects, as every map holds them.
use Rattle.std.specs.Prelude.{◌≡◌, ◌<◌, ◌^◌, All}
use Rattle.indexmap.specs.IndexMap.{IsUnique, index_map_len}
use Rattle.graphql_nodes.specs.Names.{same_name}
use Rattle.graphql_nodes.specs.declared.nodes.Node.{Node}
use Rattle.graphql_documents.specs.declared.documents.schemas.ExtendedType.TheVariants.{InputObject}
use Rattle.graphql_documents.specs.declared.documents.schemas.InputObjectType.{InputObjectType}
use Rattle.graphql_documents.specs.declared.documents.schemas.Schema.{Schema}

-- no two keys are the same, and there are fewer than memory has room for: the iterators of a map say so of
-- every map that exists
pub record HasFieldsOfMap (d : InputObjectType) : Type 0 where
  pub unique : IsUnique same_name d.fields
  pub fits : index_map_len d.fields < 2 ^ 63

-- so it is of each input object of the schema
abbrev pub InputObjectsHaveFieldsOfMaps : Schema → Type 0
InputObjectsHaveFieldsOfMaps schema =
    All (λ entry. (d : Node InputObjectType) → entry.1 ≡ InputObject d → HasFieldsOfMap d.value.value) schema.types.entries
