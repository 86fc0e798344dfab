-- The definitions of fields, in a schema or without one.
use Rattle.std.specs.Prelude.{◌≡◌, Option, None, Some}
use Rattle.graphql_documents.specs.Schemas.{type_definition}
use Rattle.graphql_documents.specs.declared.documents.schemas.ExtendedType.{ExtendedType}
use Rattle.graphql_nodes.specs.Names.{NameText}
use Rattle.graphql_documents.specs.declared.documents.schemas.Schema.{Schema}
use Rattle.graphql_document_building.specs.Selections.{IsUnknownField}
use Rattle.graphql_document_building.specs.declared.field_definitions.FieldDefinitions.{FieldDefinitions}
use Rattle.graphql_document_building.specs.declared.field_definitions.FieldDefinitions.TheVariants.{OfSchema, Unknown}

-- the schema, if there is one
abbrev pub schema_of : FieldDefinitions → Option Schema
schema_of (OfSchema schema) = Some schema.now
schema_of (Unknown definition) = None

-- what stands for definitions that are not known is the unknown one
abbrev pub IsProper : FieldDefinitions → Type 0
IsProper (OfSchema schema) = Unit {0}
IsProper (Unknown definition) = IsUnknownField definition.now

-- where there is a schema, this is the definition of its type of this name
abbrev pub IsTypeIn : Option Schema → NameText → Option ExtendedType → Type 0
IsTypeIn None name definition = Unit {0}
IsTypeIn (Some schema) name definition = definition ≡ type_definition schema name
