-- Texts are one list of documents at most.
use Rattle.std.proofs.Common.{◌≡◌, List, [], ◌∷◌, refl, ap₂}
use Rattle.std.specs.List.{AllZip}
use Rattle.graphql_frontend.specs.Texts.{IsDocumentOf, ParsesTexts, next_is_document, next_is_no_document, no_texts}
use Rattle.graphql_frontend.specs.declared.texts.SourceText.{SourceText}
use Rattle.graphql_frontend.specs.declared.texts.SyntaxReport.{SyntaxReport}
use Rattle.graphql_parser.proofs.ParseLemmas.{one_document}
use Rattle.graphql_parser.specs.declared.bounds.Bounds.{Bounds}
use Rattle.graphql_trees.specs.declared.documents.Document.{Document}

pub one_trees : (bounds : Bounds) (sources : List SourceText) (xs ys : List Document) → AllZip (IsDocumentOf bounds) sources xs → AllZip (IsDocumentOf bounds) sources ys → xs ≡ ys
one_trees bounds [] [] [] p q = refl
one_trees bounds [] [] (y ∷ ys) p q = absurd q
one_trees bounds [] (x ∷ xs) ys p q = absurd p
one_trees bounds (s ∷ sources) [] ys p q = absurd p
one_trees bounds (s ∷ sources) (x ∷ xs) [] p q = absurd q
one_trees bounds (s ∷ sources) (x ∷ xs) (y ∷ ys) p q = ap₂ ◌∷◌ (one_document bounds bounds s.file_id s.text.now x y p.0 q.0) (one_trees bounds sources xs ys p.1 q.1)

pub no_errors : (bounds : Bounds) {sources : List SourceText} {trees : List Document} {errors : List SyntaxReport} → ParsesTexts bounds sources trees errors →
    (xs : List Document) → AllZip (IsDocumentOf bounds) sources xs → errors ≡ []
no_errors bounds no_texts xs zip = refl
no_errors bounds (next_is_document is rest) [] zip = absurd zip
no_errors bounds (next_is_document is rest) (x ∷ xs) zip = no_errors bounds rest xs zip.1
no_errors bounds (next_is_no_document error rest) [] zip = absurd zip
no_errors bounds (next_is_no_document error rest) (x ∷ xs) zip = absurd (error.is_no_document x zip.0)
