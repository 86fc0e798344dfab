-- What is found in a document, by the lists of what is reported of it.
use Rattle.std.proofs.Common.{arith, rules, ◌≡◌, ◌≢◌, ℕ, Bool, true, false, List, [], ◌∷◌, None, Some, ap, length, refl}
use Rattle.std.proofs.lemmas.List.{nil_from_length}
use Rattle.std.specs.Prelude.{◌==◌, Vec}
use Rattle.std.specs.Vec.{vec_len}
use Rattle.std.specs.declared.alloc.Global.{Global}
use Rattle.json.specs.Token.{Token}
use Rattle.graphql_documents.specs.declared.documents.schemas.Schema.{Schema}
use Rattle.graphql_kept_projects.specs.Documents.{AreAllReports, AreFurtherOf, are_none, are_some}
use Rattle.graphql_kept_projects.specs.Frontend.Documents.{ValidatesDocument}
use Rattle.graphql_kept_projects.specs.Frontend.Texts.{IsTextOf}
use Rattle.graphql_kept_projects.specs.Frontend.declared.reports.Reports.{Reports}
use Rattle.graphql_kept_projects.specs.Frontend.declared.texts.SourceText.{SourceText}
use Rattle.graphql_answers.specs.Answers.{AreFirstErrorsOf, ChecksWithin, no_errors, reports_nothing, reports_some, unnamed}
use Rattle.graphql_answers.specs.declared.limits.Limits.{Limits}

-- a vector that says that it is empty has no items, and another has
no_items : {X : Type 0} (v : Vec X Global) (answer : Bool) → answer ≡ (vec_len v == 0) → answer ≡ true → v.items ≡ []
no_items v answer is empty = nil_from_length v.items (search rules)

some_items : {X : Type 0} (v : Vec X Global) (answer : Bool) → answer ≡ (vec_len v == 0) → answer ≡ false → v.items ≢ []
some_items v answer is filled none =
    let short : length v.items ≡ 0 = ap length none in
    let answered : answer ≡ true = search rules in
    let no : ⊥ = cc in no

-- all that is reported of a document
abbrev pub AreAllOf : Limits → Schema → SourceText → List Reports → Type 0
AreAllOf limits schema source = AreAllReports (ValidatesDocument limits.bounds (Some schema) source) (AreFurtherOf limits.bounds schema (source ∷ []))

found_without : (limits : Limits) (schema : Schema) (text : List ℕ) (source : SourceText) (lists : List Reports) → IsTextOf text source →
    AreAllOf limits schema source lists → lists ≡ [] → ChecksWithin limits schema text false no_errors
found_without limits schema text source [] is (are_none none) empty = reports_nothing source is none
found_without limits schema text source (first ∷ further) is all empty = absurd (grind (arith, ap length empty))

found_with : (limits : Limits) (schema : Schema) (text : List ℕ) (source : SourceText) (lists : List Reports) → IsTextOf text source →
    AreAllOf limits schema source lists → lists ≢ [] → (object : List Token) →
    AreFirstErrorsOf limits (Some schema) (unnamed source ∷ []) None (source ∷ []) lists object → ChecksWithin limits schema text true object
found_with limits schema text source [] is all filled object errors = absurd (filled refl)
found_with limits schema text source (first ∷ further) is (are_some reported each) filled object errors =
    reports_some source is reported (record { lists = first ∷ further; are = (further, refl, each); is_object = errors })

-- without a list nothing is reported
pub nothing_found : (limits : Limits) (schema : Schema) (text : List ℕ) (source : SourceText) (lists : Vec Reports Global) (answer : Bool) → IsTextOf text source →
    AreAllOf limits schema source lists.items → answer ≡ (vec_len lists == 0) → answer ≡ true → ChecksWithin limits schema text false no_errors
nothing_found limits schema text source lists answer is all answered empty =
    found_without limits schema text source lists.items is all (no_items lists answer answered empty)

-- with lists all of them are shown
pub something_found : (limits : Limits) (schema : Schema) (text : List ℕ) (source : SourceText) (lists : Vec Reports Global) (answer : Bool) → IsTextOf text source →
    AreAllOf limits schema source lists.items → answer ≡ (vec_len lists == 0) → answer ≡ false → (object : List Token) →
    AreFirstErrorsOf limits (Some schema) (unnamed source ∷ []) None (source ∷ []) lists.items object → ChecksWithin limits schema text true object
something_found limits schema text source lists answer is all answered filled =
    found_with limits schema text source lists.items is all (some_items lists answer answered filled)
