-- Which types a schema keeps, and which built-in scalars it lacks.
use Rattle.std.proofs.Common.{◌≡◌, ℕ, Bool, true, false, ◌&&◌, not, List, [], ◌∷◌, ◌++◌, refl, ◌∙◌, ap, Contains, append-nil}
use Rattle.std.specs.Prelude.{IsTrue, IsFalse}
use Rattle.std.specs.List.{AllZip}
use Rattle.std.proofs.lemmas.List.Elements.{All-contains, filter_passes}
use Rattle.graphql_nodes.specs.Names.{NameText}
use Rattle.graphql_documents.specs.Schemas.{is_built_in}
use Rattle.graphql_specification.specs.BuiltInScalars.{built_in_scalar_names, names_built_in_scalar, uses_type, has_type, is_unused_built_in, kept_types, missing_scalars, IsAddedScalar, RetainsUsedBuiltInScalars}
use Rattle.graphql_documents.specs.declared.documents.schemas.Schema.{Schema}
use Rattle.graphql_documents.specs.declared.documents.schemas.ExtendedType.{ExtendedType}
use Rattle.graphql_documents.proofs.ListLemmas.{kept_by_filter, all_pass, each_standing}

-- an entry of a type map
abbrev Entry : Type 0
Entry = NameText × ExtendedType

pub other_entry_stays : (schema : Schema) (entry : Entry) → Contains schema.types.entries entry → IsFalse (is_built_in entry.1) →
    Contains (kept_types schema) entry
other_entry_stays schema entry stands other =
    kept_by_filter (λ entry. not (is_unused_built_in schema entry)) schema.types.entries entry stands (rw other refl)

not_unused : (b n u : Bool) → u ≡ true → not (b && (n && not u)) ≡ true
not_unused false n u e = refl
not_unused true false u e = refl
not_unused true true u e = rw e refl

pub used_entry_stays : (schema : Schema) (entry : Entry) → Contains schema.types.entries entry → IsTrue (uses_type schema entry.0.text) →
    Contains (kept_types schema) entry
used_entry_stays schema entry stands used =
    kept_by_filter (λ entry. not (is_unused_built_in schema entry)) schema.types.entries entry stands
    (not_unused (is_built_in entry.1) (names_built_in_scalar entry.0.text) (uses_type schema entry.0.text) used)

pub unused_entry_goes : (schema : Schema) (entry : Entry) → IsTrue (is_built_in entry.1) → IsTrue (names_built_in_scalar entry.0.text) →
    IsFalse (uses_type schema entry.0.text) → ¬ Contains (kept_types schema) entry
unused_entry_goes schema entry built_in named unused stands =
    let passes : not (is_unused_built_in schema entry) ≡ true =
    All-contains (λ entry. not (is_unused_built_in schema entry) ≡ true) (kept_types schema) entry
    (filter_passes (λ entry. not (is_unused_built_in schema entry)) schema.types.entries) stands in
    let is : is_unused_built_in schema entry ≡ true = rw (built_in, named, unused) refl in
    let no : ⊥ = cc (ap not is) in no

pub missing_is_listed : (schema : Schema) (text : List ℕ) → Contains built_in_scalar_names text → IsTrue (uses_type schema text) →
    IsFalse (has_type schema text) → Contains (missing_scalars schema) text
missing_is_listed schema text named used lacked =
    kept_by_filter (λ text. uses_type schema text && not (has_type schema text)) built_in_scalar_names text named (rw (used, lacked) refl)

none_added : {A B : Type 0} (R : A → B → Type 0) (missing : List A) (added : List B) → missing ≡ [] → AllZip R missing added → added ≡ []
none_added R [] [] e all = refl
none_added R [] (y ∷ ys) e all = absurd all
none_added R (x ∷ xs) added e all = absurd (let no : ⊥ = cc in no)

pub retained_stays : (schema : Schema) (retained : List Entry) →
    ((entry : Entry) → Contains schema.types.entries entry → IsFalse (is_unused_built_in schema entry)) →
    missing_scalars schema ≡ [] → RetainsUsedBuiltInScalars schema retained → retained ≡ schema.types.entries
retained_stays schema retained all_used none_missing (added, is, each) =
    let none : added ≡ [] = none_added IsAddedScalar (missing_scalars schema) added none_missing each in
    let kept : kept_types schema ≡ schema.types.entries =
    all_pass (λ entry. not (is_unused_built_in schema entry)) schema.types.entries
    (each_standing (λ entry. not (is_unused_built_in schema entry) ≡ true) schema.types.entries (λ entry stands. ap not (all_used entry stands))) in
    is ∙ ap (λ l. kept_types schema ++ l) none ∙ append-nil (kept_types schema) ∙ kept
