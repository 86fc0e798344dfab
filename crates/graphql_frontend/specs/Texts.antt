-- Texts, and the documents that they are. Specification: 2.2 Document.
use Rattle.std.specs.Prelude.{◌≡◌, ◌≢◌, ℕ, List, [], ◌∷◌, ◌++◌}
use Rattle.graphql_nodes.specs.declared.spans.FileId.{FileId}
use Rattle.graphql_nodes.specs.declared.spans.TheConstants as spans
use Rattle.graphql_parser.specs.Parses.{ParsesDocument}
use Rattle.graphql_parser.specs.Refusals.{IsRefusal}
use Rattle.graphql_parser.specs.declared.bounds.Bounds.{Bounds}
use Rattle.graphql_schema_building.specs.declared.built_in.TheConstants as built_in
use Rattle.graphql_trees.specs.declared.documents.Document.{Document}
use Rattle.graphql_frontend.specs.declared.texts.SourceText.{SourceText}
use Rattle.graphql_frontend.specs.declared.texts.SyntaxReport.{SyntaxReport}

-- the text is this document
abbrev pub IsDocumentOf : Bounds → SourceText → Document → Type 0
IsDocumentOf bounds source tree = ParsesDocument bounds source.file_id source.text.now tree

-- the report is of this text, which is no document, and gives its error
pub record IsErrorOf (bounds : Bounds) (source : SourceText) (report : SyntaxReport) : Type 0 where
  pub file_is : report.file_id ≡ source.file_id
  pub is_no_document : (tree : Document) → IsDocumentOf bounds source tree → ⊥
  pub error_is : IsRefusal bounds source.file_id source.text.now report.error

-- each of these texts is a document, and has its tree among these, or is none, and has its error among these: both in the order of the texts
pub data ParsesTexts (bounds : Bounds) : List SourceText → List Document → List SyntaxReport → Type 0 where
  no_texts : ParsesTexts bounds [] [] []
  next_is_document : {source : SourceText} {sources : List SourceText} {tree : Document} {trees : List Document} {errors : List SyntaxReport} →
      IsDocumentOf bounds source tree → ParsesTexts bounds sources trees errors → ParsesTexts bounds (source ∷ sources) (tree ∷ trees) errors
  next_is_no_document : {source : SourceText} {sources : List SourceText} {trees : List Document} {report : SyntaxReport} {errors : List SyntaxReport} →
      IsErrorOf bounds source report → ParsesTexts bounds sources trees errors → ParsesTexts bounds (source ∷ sources) trees (report ∷ errors)

-- one more text is a document, which was added, or is none, and its error was added
pub data ParsesOneMore (bounds : Bounds) (source : SourceText) (old new : List Document) (before after : List SyntaxReport) : Type 0 where
  is_document : (tree : Document) → IsDocumentOf bounds source tree → new ≡ old ++ tree ∷ [] → after ≡ before → ParsesOneMore bounds source old new before after
  is_no_document : (report : SyntaxReport) → IsErrorOf bounds source report → new ≡ old → after ≡ before ++ report ∷ [] → ParsesOneMore bounds source old new before after

-- the file of the text of a schema, and that of the text of a document
abbrev pub schema_file : FileId
schema_file = record { 0 = 1 }

abbrev pub document_file : FileId
document_file = record { 0 = 2 }

-- the texts of a schema: the definitions that every schema has, as the file of these, and this text, as another file
pub record AreTextsOf (schema : List ℕ) (sources : List SourceText) : Type 0 where
  pub first : SourceText
  pub own : SourceText
  pub sources_are : sources ≡ first ∷ own ∷ []
  pub first_file_is : first.file_id ≡ spans.FileId.BUILT_IN
  pub first_is : first.text.now ≡ (built_in.BUILT_IN_DEFINITIONS).now
  pub own_file_is : own.file_id ≡ schema_file
  pub own_is_not_built_in : own.file_id ≢ spans.FileId.BUILT_IN
  pub own_is : own.text.now ≡ schema

-- the text of a document, as a file that is not that of the definitions that every schema has
pub record IsTextOf (document : List ℕ) (source : SourceText) : Type 0 where
  pub file_is : source.file_id ≡ document_file
  pub is_not_built_in : source.file_id ≢ spans.FileId.BUILT_IN
  pub text_is : source.text.now ≡ document
