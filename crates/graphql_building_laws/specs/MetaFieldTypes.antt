-- The types of meta-fields. Specification: 4.1 Type Name Introspection, 4.2 Schema Introspection.
use Rattle.graphql_documents.specs.Schemas.{NamesKind, is_output_type}
use Rattle.graphql_documents.specs.declared.documents.schemas.Schema.{Schema}
use Rattle.graphql_document_building.specs.Trees.{type_below}

-- the schema has the types of `__typename`, `__schema` and `__type`, and they are output types
pub record HasTypesOfMetaFields (schema : Schema) : Type 0 where
  pub typename : NamesKind schema is_output_type (type_below schema.meta_fields.typename)
  pub schema_field : NamesKind schema is_output_type (type_below schema.meta_fields.schema)
  pub type_by_name : NamesKind schema is_output_type (type_below schema.meta_fields.type_by_name)
