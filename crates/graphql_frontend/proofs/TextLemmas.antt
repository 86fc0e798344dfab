-- Texts that are parsed one after another.
use Rattle.std.proofs.Common.{rules, ◌≡◌, ◌≢◌, ℕ, ◌+◌, ◌<◌, ◌≤◌, List, [], ◌∷◌, ◌++◌, ap, length, get_or, take, take_all, refl, subst}
use Rattle.std.specs.Prelude.{Bool, true, false, ◌==◌, Ok, Err, OnOk, Result, Vec}
use Rattle.std.specs.List.{AllZip}
use Rattle.std.specs.Vec.{vec_len}
use Rattle.std.specs.declared.alloc.Global.{Global}
use Rattle.std.proofs.lemmas.List.{nil_from_length, take_more}
use Rattle.graphql_parser.specs.Refusals.{IsRefusal}
use Rattle.graphql_parser.specs.declared.bounds.Bounds.{Bounds}
use Rattle.graphql_parser.specs.declared.errors.SyntaxError.{SyntaxError}
use Rattle.graphql_trees.specs.declared.documents.Document.{Document}
use Rattle.graphql_frontend.specs.Texts.{IsDocumentOf, IsErrorOf, ParsesOneMore, ParsesTexts, is_document, is_no_document, next_is_document, next_is_no_document, no_texts}
use Rattle.graphql_frontend.specs.declared.texts.SourceText.{SourceText}
use Rattle.graphql_frontend.specs.declared.texts.SyntaxReport.{SyntaxReport}

-- a vector that says that it is empty has no items, and another has
pub no_items : {X : Type 0} (v : Vec X Global) (answer : Bool) → answer ≡ (vec_len v == 0) → answer ≡ true → v.items ≡ []
no_items v answer is empty = nil_from_length v.items (search rules)

pub some_items : {X : Type 0} (v : Vec X Global) (answer : Bool) → answer ≡ (vec_len v == 0) → answer ≡ false → v.items ≢ []
some_items v answer is filled none =
    let short : length v.items ≡ 0 = ap length none in
    let answered : answer ≡ true = search rules in
    let no : ⊥ = cc in no

-- the error of one text
pub one_error : (bounds : Bounds) (source : SourceText) (error : SyntaxError) → ((tree : Document) → IsDocumentOf bounds source tree → ⊥) →
    IsRefusal bounds source.file_id source.text.now error → IsErrorOf bounds source (record { file_id = source.file_id; error = error })
one_error bounds source error none refused = record { file_is = refl; is_no_document = none; error_is = refused }

-- one more text behind others
one_more : (bounds : Bounds) (source : SourceText) {sources : List SourceText} {old new : List Document} {before after : List SyntaxReport} →
    ParsesTexts bounds sources old before → ParsesOneMore bounds source old new before after → ParsesTexts bounds (sources ++ source ∷ []) new after
one_more bounds source no_texts (is_document tree is documents_are errors_are) = rw (documents_are, errors_are) (next_is_document is no_texts)
one_more bounds source no_texts (is_no_document report is documents_are errors_are) = rw (documents_are, errors_are) (next_is_no_document is no_texts)
one_more bounds source (next_is_document {tree = first} {trees = trees} found rest) (is_document tree is documents_are errors_are) =
    rw (documents_are, errors_are) (next_is_document found (one_more bounds source rest (is_document tree is refl refl)))
one_more bounds source (next_is_document {tree = first} {trees = trees} found rest) (is_no_document report is documents_are errors_are) =
    rw (documents_are, errors_are) (next_is_document found (one_more bounds source rest (is_no_document report is refl refl)))
one_more bounds source (next_is_no_document wrong rest) (is_document tree is documents_are errors_are) =
    rw (documents_are, errors_are) (next_is_no_document wrong (one_more bounds source rest (is_document tree is refl refl)))
one_more bounds source (next_is_no_document wrong rest) (is_no_document report is documents_are errors_are) =
    rw (documents_are, errors_are) (next_is_no_document wrong (one_more bounds source rest (is_no_document report is refl refl)))

pub parsed_more : (bounds : Bounds) (sources : List SourceText) (i : ℕ) (source : SourceText) (old new : List Document) (before after : List SyntaxReport) →
    i < length sources → source ≡ get_or sources i source → ParsesTexts bounds (take i sources) old before →
    ParsesOneMore bounds source old new before after → ParsesTexts bounds (take (i + 1) sources) new after
parsed_more bounds sources i source old new before after within is so more =
    rw (take_more sources i source within, ← is) (one_more bounds source so more)

pub all_parsed : (bounds : Bounds) (sources : List SourceText) (i : ℕ) (trees : List Document) (errors : List SyntaxReport) → length sources ≤ i →
    ParsesTexts bounds (take i sources) trees errors → ParsesTexts bounds sources trees errors
all_parsed bounds sources i trees errors past so = subst (λ l. ParsesTexts bounds l trees errors) (take_all i sources past) so

pub error_added : {T E : Type 0} (bounds : Bounds) (source : SourceText) (error : SyntaxError) (trees : List Document) (before after : List SyntaxReport) (r : Result T E) →
    ((tree : Document) → IsDocumentOf bounds source tree → ⊥) → IsRefusal bounds source.file_id source.text.now error →
    OnOk r (after ≡ before ++ record { file_id = source.file_id; error = error } ∷ []) → OnOk r (ParsesOneMore bounds source trees trees before after)
error_added bounds source error trees before after (Ok x) none refused added =
    is_no_document (record { file_id = source.file_id; error = error }) (one_error bounds source error none refused) refl added
error_added bounds source error trees before after (Err e) none refused added = tt

-- if there are no errors, each text is a document
pub without_errors : (bounds : Bounds) {sources : List SourceText} {trees : List Document} {errors : List SyntaxReport} →
    ParsesTexts bounds sources trees errors → errors ≡ [] → AllZip (IsDocumentOf bounds) sources trees
without_errors bounds no_texts none = tt
without_errors bounds (next_is_document is rest) none = (is, without_errors bounds rest none)
without_errors bounds (next_is_no_document wrong rest) none = absurd (let no : ⊥ = cc in no)
