-- The texts that have a token, and the files that they are.
use Rattle.std.proofs.Common.{◌≡◌, ℕ, ◌+◌, ◌<◌, ◌≤◌, List, [], ◌∷◌, ◌++◌, length, get_or, take, take_all, subst, sym}
use Rattle.std.specs.List.{AllZip}
use Rattle.std.proofs.lemmas.List.{take_more}
use Rattle.graphql_frontend.specs.Texts.{IsDocumentOf, ParsesTexts, next_is_document, next_is_no_document, no_texts}
use Rattle.graphql_frontend.specs.declared.texts.SourceText.{SourceText}
use Rattle.graphql_frontend.specs.declared.texts.SyntaxReport.{SyntaxReport}
use Rattle.graphql_parser.specs.declared.bounds.Bounds.{Bounds}
use Rattle.graphql_projects.specs.Lexical.{AreTokens}
use Rattle.graphql_trees.specs.declared.documents.Document.{Document}
use Rattle.graphql_projects.specs.Projects.{ReadFiles, empty_file, next_file, no_file}
use Rattle.graphql_project_checking.specs.Silence.{AddsIfToken, LeavesOutEmpty, has_none, is_added, keeps, leaves_out, no_text}

pub without_errors : (bounds : Bounds) {sources : List SourceText} {trees : List Document} {errors : List SyntaxReport} →
    ParsesTexts bounds sources trees errors → errors ≡ [] → AllZip (IsDocumentOf bounds) sources trees
without_errors bounds no_texts none = tt
without_errors bounds (next_is_document is rest) none = (is, without_errors bounds rest none)
without_errors bounds (next_is_no_document wrong rest) none = absurd (let no : ⊥ = cc in no)

pub files_are_read : (bounds : Bounds) {sources kept : List SourceText} → LeavesOutEmpty sources kept → (trees : List Document) →
    AllZip (IsDocumentOf bounds) kept trees → ReadFiles bounds sources trees
files_are_read bounds no_text [] zip = no_file
files_are_read bounds no_text (t ∷ ts) zip = absurd zip
files_are_read bounds (leaves_out tokens rest) trees zip = empty_file tokens (files_are_read bounds rest trees zip)
files_are_read bounds (keeps rest) [] zip = absurd zip
files_are_read bounds (keeps rest) (t ∷ ts) zip = next_file zip.0 (files_are_read bounds rest ts zip.1)

one_left_out : {sources kept : List SourceText} (source : SourceText) → AreTokens source.text.now [] → LeavesOutEmpty sources kept → LeavesOutEmpty (sources ++ source ∷ []) kept
one_left_out source tokens no_text = leaves_out tokens no_text
one_left_out source tokens (leaves_out none rest) = leaves_out none (one_left_out source tokens rest)
one_left_out source tokens (keeps rest) = keeps (one_left_out source tokens rest)

one_kept : {sources kept : List SourceText} (source : SourceText) → LeavesOutEmpty sources kept → LeavesOutEmpty (sources ++ source ∷ []) (kept ++ source ∷ [])
one_kept source no_text = keeps no_text
one_kept source (leaves_out none rest) = leaves_out none (one_kept source rest)
one_kept source (keeps rest) = keeps (one_kept source rest)

leaves_one_out : (sources kept : List SourceText) (i : ℕ) (source : SourceText) → i < length sources → source ≡ get_or sources i source →
    AreTokens source.text.now [] → LeavesOutEmpty (take i sources) kept → LeavesOutEmpty (take (i + 1) sources) kept
leaves_one_out sources kept i source within is tokens so = rw (take_more sources i source within, ← is) (one_left_out source tokens so)

keeps_one : (sources kept new : List SourceText) (i : ℕ) (source : SourceText) → i < length sources → source ≡ get_or sources i source →
    new ≡ kept ++ source ∷ [] → LeavesOutEmpty (take i sources) kept → LeavesOutEmpty (take (i + 1) sources) new
keeps_one sources kept new i source within is grown so = rw (take_more sources i source within, ← is, grown) (one_kept source so)

-- one more text
pub texts_more : (sources kept new : List SourceText) (i : ℕ) (source : SourceText) → i < length sources → source ≡ get_or sources i source →
    AddsIfToken source kept new → LeavesOutEmpty (take i sources) kept → LeavesOutEmpty (take (i + 1) sources) new
texts_more sources kept new i source within is (has_none tokens same) so =
    subst (LeavesOutEmpty (take (i + 1) sources)) (sym same) (leaves_one_out sources kept i source within is tokens so)
texts_more sources kept new i source within is (is_added grown) so = keeps_one sources kept new i source within is grown so

pub all_left : (sources kept : List SourceText) (i : ℕ) → length sources ≤ i → LeavesOutEmpty (take i sources) kept → LeavesOutEmpty sources kept
all_left sources kept i past so = subst (λ l. LeavesOutEmpty l kept) (take_all i sources past) so
