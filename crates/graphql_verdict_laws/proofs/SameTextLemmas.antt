-- Texts of the same bytes, as the same files, have the same verdicts.
use Rattle.std.proofs.Common.{◌≡◌, ◌∙◌, List, [], ◌∷◌, None, Option, Some, length, sym, subst}
use Rattle.std.specs.Prelude.{ℕ}
use Rattle.std.specs.List.{AllZip}
use Rattle.graphql_documents.specs.declared.documents.schemas.Schema.{Schema}
use Rattle.graphql_frontend.specs.Documents.{JudgesTree, ValidatesDocument, is_document, is_no_document}
use Rattle.graphql_frontend.specs.Schemas.{ReadsSchema, are_documents, not_all_are_documents}
use Rattle.graphql_frontend.specs.Texts.{AreTextsOf, IsDocumentOf, IsErrorOf, IsTextOf, ParsesTexts, next_is_document, next_is_no_document, no_texts}
use Rattle.graphql_frontend.specs.Verdicts.{Validates, ValidatesAgainst, holds, lacks_introspection, rejected, schema_is_read, schema_is_rejected}
use Rattle.graphql_frontend.specs.declared.reports.Reports.{Reports}
use Rattle.graphql_frontend.specs.declared.schemas.SchemaReading.{SchemaReading}
use Rattle.graphql_frontend.specs.declared.texts.SourceText.{SourceText}
use Rattle.graphql_frontend.specs.declared.texts.SyntaxReport.{SyntaxReport}
use Rattle.graphql_frontend.specs.declared.verdicts.Verdict.{Verdict}
use Rattle.graphql_parser.specs.Parses.{ParsesDocument}
use Rattle.graphql_parser.specs.Refusals.{IsRefusal}
use Rattle.graphql_parser.specs.declared.bounds.Bounds.{Bounds}
use Rattle.graphql_trees.specs.declared.documents.Document.{Document}

-- the texts have the same bytes, as the same file
pub record SameText (a b : SourceText) : Type 0 where
  pub file_is : a.file_id ≡ b.file_id
  pub text_is : a.text.now ≡ b.text.now

turned : (a b : SourceText) → SameText a b → SameText b a
turned a b same = record { file_is = sym same.file_is; text_is = sym same.text_is }

module _ (bounds : Bounds) where
  document_too : (a b : SourceText) → SameText a b → (tree : Document) → IsDocumentOf bounds a tree → IsDocumentOf bounds b tree
  document_too a b same tree is =
      subst (λ f. ParsesDocument bounds f b.text.now tree) same.file_is (subst (λ t. ParsesDocument bounds a.file_id t tree) same.text_is is)

  error_too : (a b : SourceText) → SameText a b → (report : SyntaxReport) → IsErrorOf bounds a report → IsErrorOf bounds b report
  error_too a b same report is = record {
    file_is = is.file_is ∙ same.file_is;
    is_no_document = λ tree it. is.is_no_document tree (document_too b a (turned a b same) tree it);
    error_is = subst (λ f. IsRefusal bounds f b.text.now report.error) same.file_is
        (subst (λ t. IsRefusal bounds a.file_id t report.error) same.text_is is.error_is);
  }

  documents_too : (xs ys : List SourceText) → AllZip SameText xs ys → (trees : List Document) → AllZip (IsDocumentOf bounds) xs trees → AllZip (IsDocumentOf bounds) ys trees
  documents_too [] [] same trees are = are
  documents_too [] (y ∷ ys) same trees are = absurd same
  documents_too (x ∷ xs) [] same trees are = absurd same
  documents_too (x ∷ xs) (y ∷ ys) same [] are = absurd are
  documents_too (x ∷ xs) (y ∷ ys) same (tree ∷ trees) are = (document_too x y same.0 tree are.0, documents_too xs ys same.1 trees are.1)

  texts_too : {xs : List SourceText} {trees : List Document} {errors : List SyntaxReport} → ParsesTexts bounds xs trees errors →
      (ys : List SourceText) → AllZip SameText xs ys → ParsesTexts bounds ys trees errors
  texts_too no_texts [] same = no_texts
  texts_too no_texts (y ∷ ys) same = absurd same
  texts_too (next_is_document is rest) [] same = absurd same
  texts_too (next_is_document {source = x} {tree = tree} is rest) (y ∷ ys) same = next_is_document (document_too x y same.0 tree is) (texts_too rest ys same.1)
  texts_too (next_is_no_document is rest) [] same = absurd same
  texts_too (next_is_no_document {source = x} {report = report} is rest) (y ∷ ys) same = next_is_no_document (error_too x y same.0 report is) (texts_too rest ys same.1)

  reads_too : (xs ys : List SourceText) → AllZip SameText xs ys → (reading : SchemaReading) → ReadsSchema bounds xs reading → ReadsSchema bounds ys reading
  reads_too xs ys same reading (not_all_are_documents trees parses some) = not_all_are_documents trees (texts_too parses ys same) some
  reads_too xs ys same reading (are_documents trees are judges) = are_documents trees (documents_too xs ys same trees are) judges

  judged_too : (a b : SourceText) → SameText a b → (schema : Option Schema) (reports : Option Reports) → ValidatesDocument bounds schema a reports →
      ValidatesDocument bounds schema b reports
  judged_too a b same schema reports (is_no_document report is only) = is_no_document report (error_too a b same report is) only
  judged_too a b same schema reports (is_document tree is judges) =
      is_document tree (document_too a b same tree is) (subst (λ t. JudgesTree bounds (length t) schema tree reports) same.text_is judges)

  against_too : (a b : SourceText) → SameText a b → (schema : Schema) (verdict : Verdict) → ValidatesAgainst bounds schema a verdict → ValidatesAgainst bounds schema b verdict
  against_too a b same schema verdict (holds valid) = holds (judged_too a b same (Some schema) None valid)
  against_too a b same schema verdict (rejected {reports = reports} wrong) = rejected (judged_too a b same (Some schema) (Some reports) wrong)

  pub verdict_too : (xs ys : List SourceText) → AllZip SameText xs ys → (a b : SourceText) → SameText a b → (verdict : Verdict) →
      Validates bounds xs a verdict → Validates bounds ys b verdict
  verdict_too xs ys are a b same verdict (schema_is_rejected reads) = schema_is_rejected (reads_too xs ys are _ reads)
  verdict_too xs ys are a b same verdict (lacks_introspection reads) = lacks_introspection (reads_too xs ys are _ reads)
  verdict_too xs ys are a b same verdict (schema_is_read accepted reads against) =
      schema_is_read accepted (reads_too xs ys are _ reads) (against_too a b same accepted verdict against)

pub same_schema_texts : (schema : List ℕ) (xs ys : List SourceText) → AreTextsOf schema xs → AreTextsOf schema ys → AllZip SameText xs ys
same_schema_texts schema xs ys a b =
    let built_in : SameText a.first b.first = record { file_is = a.first_file_is ∙ sym b.first_file_is; text_is = a.first_is ∙ sym b.first_is } in
    let own : SameText a.own b.own = record { file_is = a.own_file_is ∙ sym b.own_file_is; text_is = a.own_is ∙ sym b.own_is } in
    let others : AllZip SameText (a.own ∷ []) (b.own ∷ []) = (own, tt) in
    let both : AllZip SameText (a.first ∷ a.own ∷ []) (b.first ∷ b.own ∷ []) = (built_in, others) in
    subst (λ s. AllZip SameText s ys) (sym a.sources_are) (subst (AllZip SameText (a.first ∷ a.own ∷ [])) (sym b.sources_are) both)

pub same_document_text : (document : List ℕ) (a b : SourceText) → IsTextOf document a → IsTextOf document b → SameText a b
same_document_text document a b is it = record { file_is = is.file_is ∙ sym it.file_is; text_is = is.text_is ∙ sym it.text_is }
