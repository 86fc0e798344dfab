-- The verdict on a schema and a document, from their texts.
use Rattle.std.specs.Prelude.{ℕ, List, None, Some}
use Rattle.std.specs.List.{AllZip}
use Rattle.graphql_document_checking.specs.Documents.{DocumentSays}
use Rattle.graphql_documents.specs.Built.{IsBuilt}
use Rattle.graphql_documents.specs.declared.documents.executables.ExecutableDocument.{ExecutableDocument}
use Rattle.graphql_documents.specs.declared.documents.schemas.Schema.{Schema}
use Rattle.graphql_parser.specs.declared.bounds.Bounds.{Bounds}
use Rattle.graphql_schema_building.specs.SchemaSays.{SchemaSays}
use Rattle.graphql_trees.specs.declared.documents.Document.{Document}
use Rattle.graphql_frontend.specs.Documents.{EveryRuleHolds, ValidatesDocument}
use Rattle.graphql_frontend.specs.Schemas.{IsAccepted, ReadsSchema}
use Rattle.graphql_frontend.specs.Texts.{AreTextsOf, IsDocumentOf, IsTextOf}
use Rattle.graphql_frontend.specs.declared.reports.Reports.{Reports}
use Rattle.graphql_frontend.specs.declared.schemas.SchemaReading.TheVariants as reading
use Rattle.graphql_frontend.specs.declared.texts.SourceText.{SourceText}
use Rattle.graphql_frontend.specs.declared.verdicts.Verdict.{Verdict}
use Rattle.graphql_frontend.specs.declared.verdicts.Verdict.TheVariants.{Valid, SchemaRejected, LacksIntrospection, DocumentRejected}

-- a schema is read of the texts, and this is the verdict on the document against it
pub data ValidatesAgainst (bounds : Bounds) (schema : Schema) (document : SourceText) : Verdict → Type 0 where
  holds : ValidatesDocument bounds (Some schema) document None → ValidatesAgainst bounds schema document Valid
  rejected : {reports : Reports} → ValidatesDocument bounds (Some schema) document (Some reports) → ValidatesAgainst bounds schema document (DocumentRejected reports)

-- the verdict, by the first stage that reports something
pub data Validates (bounds : Bounds) (sources : List SourceText) (document : SourceText) : Verdict → Type 0 where
  schema_is_rejected : {reports : Reports} → ReadsSchema bounds sources (reading.Rejected reports) → Validates bounds sources document (SchemaRejected reports)
  lacks_introspection : ReadsSchema bounds sources reading.LacksIntrospection → Validates bounds sources document LacksIntrospection
  schema_is_read : {verdict : Verdict} (schema : Schema) → ReadsSchema bounds sources (reading.Accepted schema) → ValidatesAgainst bounds schema document verdict →
      Validates bounds sources document verdict

-- the verdict on the text of a document against the text of a schema, to which the definitions are added that every schema has
pub record ValidatesTexts (bounds : Bounds) (schema document : List ℕ) (verdict : Verdict) : Type 0 where
  pub sources : List SourceText
  pub source : SourceText
  pub are_texts : AreTextsOf schema sources
  pub is_text : IsTextOf document source
  pub validates : Validates bounds sources source verdict

-- the texts are GraphQL; they say a schema, which is accepted, and a document, which is built against it; and every rule holds
pub record IsValidText (bounds : Bounds) (schema document : List ℕ) : Type 0 where
  pub sources : List SourceText
  pub source : SourceText
  pub trees : List Document
  pub tree : Document
  pub said : Schema
  pub accepted : Schema
  pub built : ExecutableDocument
  pub are_texts : AreTextsOf schema sources
  pub is_text : IsTextOf document source
  pub are_documents : AllZip (IsDocumentOf bounds) sources trees
  pub is_document : IsDocumentOf bounds source tree
  pub says_schema : SchemaSays trees said
  pub is_accepted : IsAccepted said accepted
  pub says_document : DocumentSays (Some accepted) tree built
  pub is_built : IsBuilt accepted built
  pub every_rule_holds : EveryRuleHolds (Some accepted) built
