-- The fields of a type, by name. Specification: 5.3 Fields.
use Rattle.std.specs.Prelude.{◌≡◌, Some, Ok}
use Rattle.indexmap.specs.IndexMap.{IndexMap, get}
use Rattle.graphql_hash_seeds.specs.declared.seeds.HashSeed.{HashSeed}
use Rattle.graphql_nodes.specs.Names.{NameText, same_name}
use Rattle.graphql_documents.specs.Schemas.{type_field}
use Rattle.graphql_documents.specs.declared.documents.components.Component.{Component}
use Rattle.graphql_documents.specs.declared.documents.definitions.FieldDefinition.{FieldDefinition}
use Rattle.graphql_documents.specs.declared.documents.schemas.Schema.{Schema}

-- what these are looked up as, the schema finds as fields of the type
abbrev pub AreFieldsOf : Schema → NameText → IndexMap NameText (Component FieldDefinition) HashSeed → Type 0
AreFieldsOf schema parent fields =
    (name : NameText) (field : Component FieldDefinition) → get same_name fields name ≡ Some field → type_field schema parent name ≡ Ok field
