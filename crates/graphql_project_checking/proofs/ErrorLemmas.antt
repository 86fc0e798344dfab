-- The errors of texts, and the files that are documents.
use Rattle.std.proofs.Common.{List, [], ◌∷◌, arith, refl, subst, sym}
use Rattle.std.specs.Prelude.{All, Any, Contains}
use Rattle.std.proofs.lemmas.List.Elements.{All-cons, All-nil, All-weaker}
use Rattle.graphql_documents.proofs.ListLemmas.{stands_behind, stands_first}
use Rattle.graphql_frontend.specs.Texts.{IsErrorOf, ParsesTexts, next_is_document, next_is_no_document, no_texts}
use Rattle.graphql_frontend.specs.declared.reports.Reports.{Reports}
use Rattle.graphql_frontend.specs.declared.reports.Reports.TheVariants.{Syntax}
use Rattle.graphql_frontend.specs.declared.texts.SourceText.{SourceText}
use Rattle.graphql_frontend.specs.declared.texts.SyntaxReport.{SyntaxReport}
use Rattle.graphql_parser.specs.declared.bounds.Bounds.{Bounds}
use Rattle.graphql_trees.specs.declared.documents.Document.{Document}
use Rattle.graphql_project_checking.proofs.TruthLemmas.{any_among, any_behind}
use Rattle.graphql_project_checking.specs.Silence.{LeavesOutEmpty, keeps, leaves_out, no_text}
use Rattle.graphql_project_checking.specs.Truth as truth
use Rattle.graphql_project_checking.specs.Truth.{AreErrorsOf, HasErrors, ParsedFiles}

abbrev IsErrorOfOne : Bounds → List SourceText → SyntaxReport → Type 0
IsErrorOfOne bounds sources e = Any (λ source. IsErrorOf bounds source e) sources

errors_of_kept : (bounds : Bounds) {sources : List SourceText} {trees : List Document} {errors : List SyntaxReport} →
    ParsesTexts bounds sources trees errors → All (IsErrorOfOne bounds sources) errors
errors_of_kept bounds no_texts = All-nil (IsErrorOfOne bounds [])
errors_of_kept bounds (next_is_document {source} {sources} {tree} {trees} {errors} is rest) =
    All-weaker (IsErrorOfOne bounds sources) (IsErrorOfOne bounds (source ∷ sources)) (λ e. any_behind (λ s. IsErrorOf bounds s e) source sources) errors (errors_of_kept bounds rest)
errors_of_kept bounds (next_is_no_document {source} {sources} {trees} {report} {errors} wrong rest) =
    All-cons (IsErrorOfOne bounds (source ∷ sources)) report errors (0, source, omega arith, refl, wrong)
    (All-weaker (IsErrorOfOne bounds sources) (IsErrorOfOne bounds (source ∷ sources)) (λ e. any_behind (λ s. IsErrorOf bounds s e) source sources) errors (errors_of_kept bounds rest))

kept_stand : {sources kept : List SourceText} → LeavesOutEmpty sources kept → All (Contains sources) kept
kept_stand no_text = All-nil (Contains [])
kept_stand (leaves_out {source} {sources} {kept} tokens rest) =
    All-weaker (Contains sources) (Contains (source ∷ sources)) (λ s. stands_behind source sources s) kept (kept_stand rest)
kept_stand (keeps {source} {sources} {kept} rest) =
    All-cons (Contains (source ∷ sources)) source kept (stands_first source sources)
    (All-weaker (Contains sources) (Contains (source ∷ sources)) (λ s. stands_behind source sources s) kept (kept_stand rest))

-- each error is of one of the texts
pub errors_are : (bounds : Bounds) {sources kept : List SourceText} {trees : List Document} {errors : List SyntaxReport} → LeavesOutEmpty sources kept →
    ParsesTexts bounds kept trees errors → All (IsErrorOfOne bounds sources) errors
errors_are bounds {sources} {kept} {trees} {errors} left parsed =
    All-weaker (IsErrorOfOne bounds kept) (IsErrorOfOne bounds sources) (λ e. any_among (λ s. IsErrorOf bounds s e) kept sources (kept_stand left)) errors
    (errors_of_kept bounds parsed)

pub errors_so : (bounds : Bounds) (sources : List SourceText) (errors : List SyntaxReport) → All (IsErrorOfOne bounds sources) errors → (x : Reports) → HasErrors errors x →
    AreErrorsOf bounds sources x
errors_so bounds sources errors all (Syntax given) has = (has.0, subst (All (IsErrorOfOne bounds sources)) (sym has.1) all)
errors_so bounds sources errors all _ has = absurd has

-- the same of more texts
pub errors_of_more : (bounds : Bounds) (sources more : List SourceText) → All (Contains more) sources → (x : Reports) → AreErrorsOf bounds sources x → AreErrorsOf bounds more x
errors_of_more bounds sources more among (Syntax given) are =
    (are.0, All-weaker (IsErrorOfOne bounds sources) (IsErrorOfOne bounds more) (λ e. any_among (λ s. IsErrorOf bounds s e) sources more among) given.items are.1)
errors_of_more bounds sources more among _ are = absurd are

-- the files that are documents
pub parsed_files : (bounds : Bounds) {sources kept : List SourceText} {trees : List Document} {errors : List SyntaxReport} → LeavesOutEmpty sources kept →
    ParsesTexts bounds kept trees errors → ParsedFiles bounds sources trees
parsed_files bounds no_text no_texts = truth.no_more_texts
parsed_files bounds (leaves_out tokens left) parsed = truth.next_is_empty tokens (parsed_files bounds left parsed)
parsed_files bounds (keeps left) (next_is_document is rest) = truth.next_is_document is (parsed_files bounds left rest)
parsed_files bounds (keeps left) (next_is_no_document wrong rest) = truth.next_is_no_document wrong.is_no_document (parsed_files bounds left rest)
