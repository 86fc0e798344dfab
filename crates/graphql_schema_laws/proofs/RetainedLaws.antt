-- Retaining a schema's built-in scalars once more changes nothing.
use Rattle.std.proofs.Common.{◌≡◌, ℕ, Bool, true, false, ◌&&◌, not, List, [], ◌∷◌, ◌++◌, refl, sym, ap, subst, ◌∙◌, Contains, append-nil}
use Rattle.std.specs.Prelude.{All, IsTrue, filter, flat_map}
use Rattle.std.specs.List.{AllZip, list_any}
use Rattle.std.specs.Str.{bytes_eq}
use Rattle.std.proofs.lemmas.List.Concat.{flat_map-append}
use Rattle.std.proofs.lemmas.List.Elements.{All-nil, All-cons, All-head, All-tail, All-append, All-contains, All-weaker, Contains-append_left, Contains-append_right, filter_passes}
use Rattle.std.proofs.lemmas.List.Folds.{Any-from_list_any, list_any-from_Any}
use Rattle.std.proofs.lemmas.Slice.Eq.{bytes_eq-Decides}
use Rattle.graphql_nodes.specs.Names.{NameText}
use Rattle.graphql_documents.specs.Schemas.{is_built_in}
use Rattle.graphql_specification.specs.BuiltInScalars.{built_in_scalar_names, names_built_in_scalar, uses_type, has_type, types_referred, types_referred_by, argument_types, is_scalar_type, is_unused_built_in, kept_types, missing_scalars, IsAddedScalar, RetainsUsedBuiltInScalars, SchemaRetainsUsedBuiltInScalars, OnlyScalarsHaveBuiltInNames}
use Rattle.graphql_documents.specs.declared.documents.schemas.Schema.{Schema}
use Rattle.graphql_documents.specs.declared.documents.schemas.ExtendedType.{ExtendedType}
use Rattle.graphql_documents.specs.declared.documents.schemas.ExtendedType.TheVariants.{Scalar}
use Rattle.graphql_documents.proofs.ListLemmas.{kept_by_filter, all_pass, each_standing, stands_first, stands_behind}
use Rattle.graphql_schema_laws.specs.BuiltInNames.{BuiltInNamesAreOfScalars}

-- an entry of a type map
abbrev pub Entry : Type 0
Entry = NameText × ExtendedType

abbrev refers : List Entry → List NameText
refers entries = flat_map (λ entry. types_referred_by entry.1) entries

scalar_refers_to_none : (d : ExtendedType) → IsTrue (is_scalar_type d) → types_referred_by d ≡ []
scalar_refers_to_none (Scalar d) is = refl
scalar_refers_to_none _ is = absurd (let no : ⊥ = cc in no)

-- entries that a test leaves out refer to nothing
same_kept : (test : Entry → Bool) (entries : List Entry) → All (λ entry. test entry ≡ false → types_referred_by entry.1 ≡ []) entries →
    refers (filter test entries) ≡ refers entries
same_kept test [] none = refl
same_kept test (e ∷ es) none =
    by (test e) refl (same_kept test es (All-tail (λ entry. test entry ≡ false → types_referred_by entry.1 ≡ []) e es none)) where
      by : (b : Bool) → test e ≡ b → refers (filter test es) ≡ refers es → refers (filter test (e ∷ es)) ≡ refers (e ∷ es)
      by true stays same = rw stays (ap (λ l. types_referred_by e.1 ++ l) same)
      by false goes same = rw (goes, All-head (λ entry. test entry ≡ false → types_referred_by entry.1 ≡ []) e es none goes) same

-- so it is where only scalars are under those names
pub only_built_in : (schema : Schema) → OnlyScalarsHaveBuiltInNames schema → BuiltInNamesAreOfScalars schema
only_built_in schema only =
    All-weaker (λ (entry : Entry). IsTrue (names_built_in_scalar entry.0.text) → IsTrue (is_scalar_type entry.1))
    (λ (entry : Entry). IsTrue (is_built_in entry.1) → IsTrue (names_built_in_scalar entry.0.text) → IsTrue (is_scalar_type entry.1))
    (λ entry scalar built_in. scalar) schema.types.entries only

unused_is_scalar : (b n u s : Bool) → (b ≡ true → n ≡ true → s ≡ true) → not (b && (n && not u)) ≡ false → s ≡ true
unused_is_scalar true true u s scalar goes = scalar refl refl
unused_is_scalar true false u s scalar goes = absurd (let no : ⊥ = cc in no)
unused_is_scalar false n u s scalar goes = absurd (let no : ⊥ = cc in no)

-- what goes refers to nothing
kept_refer : (schema : Schema) → BuiltInNamesAreOfScalars schema → refers (kept_types schema) ≡ refers schema.types.entries
kept_refer schema scalars =
    same_kept (λ entry. not (is_unused_built_in schema entry)) schema.types.entries
    (All-weaker (λ (entry : Entry). IsTrue (is_built_in entry.1) → IsTrue (names_built_in_scalar entry.0.text) → IsTrue (is_scalar_type entry.1))
    (λ entry. not (is_unused_built_in schema entry) ≡ false → types_referred_by entry.1 ≡ [])
    (λ entry scalar goes. scalar_refers_to_none entry.1
    (unused_is_scalar (is_built_in entry.1) (names_built_in_scalar entry.0.text) (uses_type schema entry.0.text) (is_scalar_type entry.1) scalar goes))
    schema.types.entries scalars)

-- what comes refers to nothing
added_refer : (texts : List (List ℕ)) (added : List Entry) → AllZip IsAddedScalar texts added → refers added ≡ []
added_refer [] [] each = refl
added_refer [] (e ∷ es) each = absurd each
added_refer (t ∷ ts) [] each = absurd each
added_refer (t ∷ ts) (e ∷ es) each = rw each.0.is_scalar (added_refer ts es each.1)

pub same_references : (schema retained : Schema) → BuiltInNamesAreOfScalars schema → SchemaRetainsUsedBuiltInScalars schema retained →
    types_referred retained ≡ types_referred schema
same_references schema retained scalars is =
    let (added, entries, each) = is.types in
    let types : refers retained.types.entries ≡ refers schema.types.entries =
    ap refers entries ∙ flat_map-append (λ (entry : Entry). types_referred_by entry.1) (kept_types schema) added ∙
    ap (λ l. refers (kept_types schema) ++ l) (added_refer (missing_scalars schema) added each) ∙ append-nil (refers (kept_types schema)) ∙ kept_refer schema scalars in
    ap (λ l. flat_map (λ entry. argument_types entry.1.value.value.arguments.items) retained.directive_definitions.entries ++ l) types ∙
    ap (λ d. flat_map (λ entry. argument_types entry.1.value.value.arguments.items) d.entries ++ refers schema.types.entries) is.directives

-- so the same types are used
same_uses : (schema retained : Schema) (text : List ℕ) → BuiltInNamesAreOfScalars schema → SchemaRetainsUsedBuiltInScalars schema retained →
    uses_type retained text ≡ uses_type schema text
same_uses schema retained text scalars is = ap (λ l. list_any (λ (name : NameText). bytes_eq name.text text) l) (same_references schema retained scalars is)

-- each text that is added passes a test that all missing ones pass
pub added_pass : (P : List ℕ → Type 0) (texts : List (List ℕ)) (added : List Entry) → AllZip IsAddedScalar texts added → All P texts → All (λ e. P e.0.text) added
added_pass P [] [] each all = All-nil (λ e. P e.0.text)
added_pass P [] (e ∷ es) each all = absurd each
added_pass P (t ∷ ts) [] each all = absurd each
added_pass P (t ∷ ts) (e ∷ es) each all =
    All-cons (λ e. P e.0.text) e es (subst P (sym each.0.key) (All-head P t ts all)) (added_pass P ts es each.1 (All-tail P t ts all))

-- a text among those that a filter keeps
missing_used : (schema : Schema) → All (λ text. uses_type schema text ≡ true) (missing_scalars schema)
missing_used schema =
    All-weaker (λ text. (uses_type schema text && not (has_type schema text)) ≡ true) (λ text. uses_type schema text ≡ true)
    (λ text passes. first_of_both (uses_type schema text) (not (has_type schema text)) passes)
    (missing_scalars schema) (filter_passes (λ text. uses_type schema text && not (has_type schema text)) built_in_scalar_names) where
      first_of_both : (a b : Bool) → (a && b) ≡ true → a ≡ true
      first_of_both true b e = refl
      first_of_both false b e = absurd (let no : ⊥ = cc in no)

pub used_stays : (b n u : Bool) → u ≡ true → not (b && (n && not u)) ≡ true
used_stays false n u e = refl
used_stays true false u e = refl
used_stays true true u e = rw e refl

-- for each text, one of the added has it
pub added_for : (texts : List (List ℕ)) (added : List Entry) → AllZip IsAddedScalar texts added → All (λ text. (entry : Entry) × Contains added entry × (entry.0.text ≡ text)) texts
added_for [] added each = All-nil (λ text. (entry : Entry) × Contains added entry × (entry.0.text ≡ text))
added_for (t ∷ ts) [] each = absurd each
added_for (t ∷ ts) (e ∷ es) each =
    All-cons (λ text. (entry : Entry) × Contains (e ∷ es) entry × (entry.0.text ≡ text)) t ts (e, stands_first e es, each.0.key)
    (All-weaker (λ text. (entry : Entry) × Contains es entry × (entry.0.text ≡ text)) (λ text. (entry : Entry) × Contains (e ∷ es) entry × (entry.0.text ≡ text))
    (λ text found. (found.0, stands_behind e es found.0 found.1, found.2)) ts (added_for ts es each.1))

pub none_added : (texts : List (List ℕ)) (added : List Entry) → texts ≡ [] → AllZip IsAddedScalar texts added → added ≡ []
none_added [] [] e each = refl
none_added [] (y ∷ ys) e each = absurd each
none_added (x ∷ xs) added e each = absurd (let no : ⊥ = cc in no)

-- a filter that none passes keeps none
none_pass : {X : Type 0} (p : X → Bool) (xs : List X) → All (λ x. p x ≡ false) xs → filter p xs ≡ []
none_pass p [] all = refl
none_pass p (x ∷ xs) all = rw (All-head (λ x. p x ≡ false) x xs all) (none_pass p xs (All-tail (λ x. p x ≡ false) x xs all))

-- a schema, retained
module _ (schema retained : Schema) (scalars : BuiltInNamesAreOfScalars schema) (is : SchemaRetainsUsedBuiltInScalars schema retained) where
  abbrev added : List Entry
  added = is.types.0

  abbrev Stays : Entry → Type 0
  Stays entry = not (is_unused_built_in retained entry) ≡ true

  kept_stay : All Stays (kept_types schema)
  kept_stay =
      All-weaker (λ entry. not (is_unused_built_in schema entry) ≡ true) Stays
      (λ entry stays. ap (λ u. not (is_built_in entry.1 && (names_built_in_scalar entry.0.text && not u))) (same_uses schema retained entry.0.text scalars is) ∙ stays)
      (kept_types schema) (filter_passes (λ entry. not (is_unused_built_in schema entry)) schema.types.entries)

  added_stay : All Stays added
  added_stay =
      All-weaker (λ (entry : Entry). uses_type schema entry.0.text ≡ true) Stays
      (λ entry used. used_stays (is_built_in entry.1) (names_built_in_scalar entry.0.text) (uses_type retained entry.0.text)
      (same_uses schema retained entry.0.text scalars is ∙ used))
      added (added_pass (λ text. uses_type schema text ≡ true) (missing_scalars schema) added is.types.2 (missing_used schema))

  all_kept : kept_types retained ≡ retained.types.entries
  all_kept =
      all_pass (λ entry. not (is_unused_built_in retained entry)) retained.types.entries
      (subst (All Stays) (sym is.types.1) (All-append Stays (kept_types schema) added kept_stay added_stay))

  -- an entry of the retained schema with the text
  stands_under : (text : List ℕ) (entry : Entry) → Contains retained.types.entries entry → entry.0.text ≡ text → has_type retained text ≡ true
  stands_under text entry (k, within, at) key =
      list_any-from_Any (λ (entry : Entry). bytes_eq entry.0.text text) retained.types.entries
      (k, entry, within, at, (bytes_eq-Decides entry.0.text text).1 key)

  pub used_has : (text : List ℕ) → Contains built_in_scalar_names text → uses_type schema text ≡ true → has_type retained text ≡ true
  used_has text named used = by (has_type schema text) refl where
    by : (b : Bool) → has_type schema text ≡ b → has_type retained text ≡ true
    by true has =
        let (k, entry, within, at, same) = Any-from_list_any (λ (entry : Entry). bytes_eq entry.0.text text) schema.types.entries has in
        let key : entry.0.text ≡ text = (bytes_eq-Decides entry.0.text text).0 same in
        let stays = used_stays (is_built_in entry.1) (names_built_in_scalar entry.0.text) (uses_type schema entry.0.text) (ap (uses_type schema) key ∙ used) in
        let kept = kept_by_filter (λ entry. not (is_unused_built_in schema entry)) schema.types.entries entry (k, within, at) stays in
        stands_under text entry (subst (λ l. Contains l entry) (sym is.types.1) (Contains-append_left (kept_types schema) added entry kept)) key
    by false lacks =
        let missing = kept_by_filter (λ text. uses_type schema text && not (has_type schema text)) built_in_scalar_names text named (rw (used, lacks) refl) in
        let (entry, stands, key) = All-contains (λ text. (entry : Entry) × Contains added entry × (entry.0.text ≡ text)) (missing_scalars schema) text (added_for (missing_scalars schema) added is.types.2) missing in
        stands_under text entry (subst (λ l. Contains l entry) (sym is.types.1) (Contains-append_right (kept_types schema) added entry stands)) key

  none_missing : missing_scalars retained ≡ []
  none_missing =
      none_pass (λ text. uses_type retained text && not (has_type retained text)) built_in_scalar_names
      (each_standing (λ text. (uses_type retained text && not (has_type retained text)) ≡ false) built_in_scalar_names
      (λ text named. by text named (uses_type schema text) refl)) where
        by : (text : List ℕ) → Contains built_in_scalar_names text → (b : Bool) → uses_type schema text ≡ b → (uses_type retained text && not (has_type retained text)) ≡ false
        by text named true used = rw (same_uses schema retained text scalars is, used, used_has text named used) refl
        by text named false unused = rw (same_uses schema retained text scalars is, unused) refl

  pub retained_again : (again : List Entry) → RetainsUsedBuiltInScalars retained again → again ≡ retained.types.entries
  retained_again again (further, entries, each) =
      let none : further ≡ [] = none_added (missing_scalars retained) further none_missing each in
      entries ∙ ap (λ l. kept_types retained ++ l) none ∙ append-nil (kept_types retained) ∙ all_kept
