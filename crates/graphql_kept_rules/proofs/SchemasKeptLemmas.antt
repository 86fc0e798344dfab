-- What is asked of two schemas for a document that holds against the first to hold against the second.
use Rattle.graphql_documents.specs.declared.documents.schemas.Schema.{Schema}
use Rattle.graphql_document_building.specs.Documents.{HasOutputFields}
use Rattle.graphql_schema_changes.specs.Keeps.{KeepsLoneFieldsValid}
use Rattle.graphql_schema_laws.specs.InputFields.{InputObjectsHaveFieldsOfMaps}
use Rattle.graphql_kept_rules.specs.InputTypes.{HasCompositeRoots, HasInputTypes}

pub record SchemasKept (old new : Schema) : Type 0 where
  pub keeps : KeepsLoneFieldsValid old new
  pub outputs : HasOutputFields old
  pub inputs : HasInputTypes old
  pub roots : HasCompositeRoots old
  pub unique : InputObjectsHaveFieldsOfMaps new
