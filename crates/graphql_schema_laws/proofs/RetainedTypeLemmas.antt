-- What a schema defines once its built-in scalars are retained: the same types, but for those scalars.
use Rattle.std.proofs.Common.{◌≡◌, ◌⊎◌, inl, inr, ℕ, Bool, true, false, cond, ◌&&◌, not, List, [], ◌∷◌, ◌++◌, Some, None, refl, sym, ap, subst, ◌∙◌, Contains}
use Rattle.std.specs.Prelude.{All, IsTrue, filter}
use Rattle.std.specs.List.{AllZip}
use Rattle.std.specs.Map.{lookup}
use Rattle.std.specs.Str.{bytes_eq}
use Rattle.std.proofs.lemmas.List.Elements.{All-nil, All-cons, All-head, All-tail, All-contains, All-contains_itself, All-filter, All-weaker, Contains-append_cases}
use Rattle.std.proofs.lemmas.List.Folds.{list_any-from_Any}
use Rattle.std.proofs.lemmas.Slice.Eq.{bytes_eq-Decides}
use Rattle.graphql_nodes.specs.Names.{NameText, same_name}
use Rattle.graphql_documents.specs.Schemas.{type_definition, is_built_in}
use Rattle.graphql_specification.specs.BuiltInScalars.{built_in_scalar_names, names_built_in_scalar, uses_type, has_type, is_scalar_type, is_unused_built_in, kept_types, missing_scalars, IsAddedScalar, SchemaRetainsUsedBuiltInScalars, OnlyScalarsHaveBuiltInNames}
use Rattle.graphql_documents.specs.declared.documents.schemas.Schema.{Schema}
use Rattle.graphql_documents.specs.declared.documents.schemas.ExtendedType.{ExtendedType}
use Rattle.graphql_documents.proofs.ListLemmas.{each_standing}
use Rattle.graphql_nodes.proofs.NameLemmas.{same_text}
use Rattle.graphql_schema_laws.proofs.RetainedLaws.{Entry, added_pass}
use Rattle.graphql_schema_laws.proofs.TypeLemmas.{type_stands}

-- what a look-up finds where entries are left out, and where further ones come
module _ {K V : Type 0} (test : K → Bool) where
  none_found : (xs : List (K × V)) → All (λ e. test e.0 ≡ false) xs → lookup test xs ≡ None
  none_found [] all = refl
  none_found (x ∷ xs) all = rw (All-head (λ (e : K × V). test e.0 ≡ false) x xs all) (none_found xs (All-tail (λ (e : K × V). test e.0 ≡ false) x xs all))

  found_in_front : (xs ys : List (K × V)) → All (λ e. test e.0 ≡ false) ys → lookup test (xs ++ ys) ≡ lookup test xs
  found_in_front [] ys all = none_found ys all
  found_in_front (x ∷ xs) ys all = ap (λ o. cond (test x.0) (Some x.1) o) (found_in_front xs ys all)

  pub found_in_filter : (p : K × V → Bool) (xs : List (K × V)) → All (λ e. test e.0 ≡ true → p e ≡ true) xs → lookup test (filter p xs) ≡ lookup test xs
  found_in_filter p [] all = refl
  found_in_filter p (x ∷ xs) all = by (p x) refl (test x.0) refl (found_in_filter p xs (All-tail (λ (e : K × V). test e.0 ≡ true → p e ≡ true) x xs all)) where
    by : (b : Bool) → p x ≡ b → (c : Bool) → test x.0 ≡ c → lookup test (filter p xs) ≡ lookup test xs → lookup test (filter p (x ∷ xs)) ≡ lookup test (x ∷ xs)
    by true stays c is same = rw stays (ap (λ o. cond (test x.0) (Some x.1) o) same)
    by false goes true is same = absurd (let no : true ≡ false = sym (All-head (λ (e : K × V). test e.0 ≡ true → p e ≡ true) x xs all is) ∙ goes in cc)
    by false goes false is same = rw (goes, is) same

-- each of the five names is one
pub known_names : All (λ text. names_built_in_scalar text ≡ true) built_in_scalar_names
known_names =
    each_standing (λ text. names_built_in_scalar text ≡ true) built_in_scalar_names
    (λ text stands. list_any-from_Any (bytes_eq text) built_in_scalar_names (stands.0, text, stands.1, stands.2, (bytes_eq-Decides text text).1 refl))

pub missing_known : (schema : Schema) → All (λ text. names_built_in_scalar text ≡ true) (missing_scalars schema)
missing_known schema = All-filter (λ text. uses_type schema text && not (has_type schema text)) (λ text. names_built_in_scalar text ≡ true) built_in_scalar_names known_names

-- a scalar that was added under one of the five names
pub record IsAdded (entry : Entry) : Type 0 where
  pub text : List ℕ
  pub known : names_built_in_scalar text ≡ true
  pub is_added : IsAddedScalar text entry

pub each_added : (texts : List (List ℕ)) (added : List Entry) → AllZip IsAddedScalar texts added → All (λ text. names_built_in_scalar text ≡ true) texts → All IsAdded added
each_added [] [] zip all = All-nil IsAdded
each_added [] (e ∷ es) zip all = absurd zip
each_added (t ∷ ts) [] zip all = absurd zip
each_added (t ∷ ts) (e ∷ es) zip all =
    All-cons IsAdded e es (record { text = t; known = All-head (λ text. names_built_in_scalar text ≡ true) t ts all; is_added = zip.0 })
    (each_added ts es zip.1 (All-tail (λ text. names_built_in_scalar text ≡ true) t ts all))

stays_elsewhere : (b n u : Bool) → n ≡ false → not (b && (n && not u)) ≡ true
stays_elsewhere false n u e = refl
stays_elsewhere true n u e = rw e refl

module _ (schema retained : Schema) (is : SchemaRetainsUsedBuiltInScalars schema retained) where
  -- each entry was there, or is a scalar that was added
  pub retained_entry : (entry : Entry) → Contains retained.types.entries entry → Contains schema.types.entries entry ⊎ IsAdded entry
  retained_entry entry stands = by (Contains-append_cases (kept_types schema) added entry (subst (λ l. Contains l entry) is.types.1 stands)) where
    added : List Entry
    added = is.types.0

    by : Contains (kept_types schema) entry ⊎ Contains is.types.0 entry → Contains schema.types.entries entry ⊎ IsAdded entry
    by (inl kept) =
        inl (All-contains (Contains schema.types.entries) (kept_types schema) entry
        (All-filter (λ entry. not (is_unused_built_in schema entry)) (Contains schema.types.entries) schema.types.entries (All-contains_itself schema.types.entries)) kept)
    by (inr came) = inr (All-contains IsAdded is.types.0 entry (each_added (missing_scalars schema) is.types.0 is.types.2 (missing_known schema)) came)

  -- a name that is none of the five stands for what it stood for
  pub other_type : (name : NameText) → names_built_in_scalar name.text ≡ false → type_definition retained name ≡ type_definition schema name
  other_type name other =
      ap (lookup (same_name name)) is.types.1 ∙
      found_in_front (same_name name) (kept_types schema) is.types.0
      (All-weaker (λ (e : Entry). names_built_in_scalar e.0.text ≡ true) (λ e. same_name name e.0 ≡ false) (λ e known. not_same e known (same_name name e.0) refl)
      is.types.0 (added_pass (λ text. names_built_in_scalar text ≡ true) (missing_scalars schema) is.types.0 is.types.2 (missing_known schema))) ∙
      found_in_filter (same_name name) (λ entry. not (is_unused_built_in schema entry)) schema.types.entries
      (each_standing (λ (e : Entry). same_name name e.0 ≡ true → not (is_unused_built_in schema e) ≡ true) schema.types.entries
      (λ e stands same. stays_elsewhere (is_built_in e.1) (names_built_in_scalar e.0.text) (uses_type schema e.0.text)
      (ap names_built_in_scalar (sym (same_text name e.0 same)) ∙ other))) where
        not_same : (e : Entry) → names_built_in_scalar e.0.text ≡ true → (b : Bool) → same_name name e.0 ≡ b → same_name name e.0 ≡ false
        not_same e known true same =
            absurd (let no : true ≡ false = sym known ∙ ap names_built_in_scalar (sym (same_text name e.0 same)) ∙ other in cc)
        not_same e known false other = other

  pub only_scalars_stay : OnlyScalarsHaveBuiltInNames schema → OnlyScalarsHaveBuiltInNames retained
  only_scalars_stay only =
      each_standing (λ (entry : Entry). IsTrue (names_built_in_scalar entry.0.text) → IsTrue (is_scalar_type entry.1)) retained.types.entries
      (λ entry stands named. by entry named (retained_entry entry stands)) where
        by : (entry : Entry) → IsTrue (names_built_in_scalar entry.0.text) → Contains schema.types.entries entry ⊎ IsAdded entry → IsTrue (is_scalar_type entry.1)
        by entry named (inl stood) =
            All-contains (λ (entry : Entry). IsTrue (names_built_in_scalar entry.0.text) → IsTrue (is_scalar_type entry.1)) schema.types.entries entry only stood named
        by entry named (inr came) = rw came.is_added.is_scalar refl

-- what one of the five names stands for is a scalar
pub named_scalar : (schema : Schema) (name : NameText) (d : ExtendedType) → OnlyScalarsHaveBuiltInNames schema → names_built_in_scalar name.text ≡ true →
    type_definition schema name ≡ Some d → is_scalar_type d ≡ true
named_scalar schema name d only named is =
    let (key, stands, same) = type_stands schema name d is in
    All-contains (λ (entry : Entry). IsTrue (names_built_in_scalar entry.0.text) → IsTrue (is_scalar_type entry.1)) schema.types.entries (key, d) only stands
    (ap names_built_in_scalar (sym (same_text name key same)) ∙ named)

-- what is no scalar stands for the same in both
module _ (from to : Schema) (only : OnlyScalarsHaveBuiltInNames from)
    (others : (name : NameText) → names_built_in_scalar name.text ≡ false → type_definition from name ≡ type_definition to name) where
  pub carried : (name : NameText) (d : ExtendedType) → type_definition from name ≡ Some d → is_scalar_type d ≡ false → type_definition to name ≡ Some d
  carried name d is other = by (names_built_in_scalar name.text) refl where
    by : (b : Bool) → names_built_in_scalar name.text ≡ b → type_definition to name ≡ Some d
    by true named = absurd (let no : true ≡ false = sym (named_scalar from name d only named is) ∙ other in cc)
    by false elsewhere = sym (others name elsewhere) ∙ is
