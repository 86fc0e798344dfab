-- What a schema uses stands for the same once its built-in scalars are retained, or for a scalar that was added.
use Rattle.std.proofs.Common.{◌≡◌, inl, inr, Bool, true, false, ◌&&◌, not, List, [], ◌∷◌, ◌++◌, Option, Some, None, refl, sym, ap, subst, ◌∙◌, Contains}
use Rattle.std.specs.Prelude.{IsSome}
use Rattle.std.specs.Map.{lookup}
use Rattle.std.specs.Str.{bytes_eq}
use Rattle.std.proofs.lemmas.List.Elements.{All-contains}
use Rattle.std.proofs.lemmas.List.Folds.{Any-from_list_any, list_any-from_Any}
use Rattle.std.proofs.lemmas.Slice.Eq.{bytes_eq-Decides}
use Rattle.graphql_nodes.specs.Names.{NameText, same_name}
use Rattle.graphql_documents.specs.Schemas.{NamesKind, is_built_in, is_input_type, type_definition}
use Rattle.graphql_specification.specs.InputValueDefinitions.{NamesType}
use Rattle.graphql_specification.specs.BuiltInScalars.{SchemaRetainsUsedBuiltInScalars, built_in_scalar_names, has_type, is_scalar_type, is_unused_built_in, kept_types, missing_scalars, names_built_in_scalar, types_referred, uses_type}
use Rattle.graphql_documents.specs.declared.documents.schemas.ExtendedType.{ExtendedType}
use Rattle.graphql_documents.specs.declared.documents.schemas.ExtendedType.TheVariants.{Scalar}
use Rattle.graphql_documents.specs.declared.documents.schemas.Schema.{Schema}
use Rattle.graphql_documents.proofs.ListLemmas.{each_standing, kept_by_filter}
use Rattle.graphql_nodes.proofs.NameLemmas.{same_name_back, same_text}
use Rattle.graphql_schema_laws.proofs.DefinedTypeLaws.{some_looked_up}
use Rattle.graphql_schema_laws.proofs.RetainedLaws.{Entry, added_for, used_stays}
use Rattle.graphql_schema_laws.proofs.RetainedTypeLemmas.{IsAdded, each_added, found_in_filter, missing_known, other_type}
use Rattle.graphql_schema_laws.proofs.TypeLemmas.{found_stands}

pub some_is : {X : Type 0} (o : Option X) → IsSome o → (x : X) × (o ≡ Some x)
some_is (Some x) h = (x, refl)
some_is None h = absurd (let no : ⊥ = cc in no)

pub scalar_is_input : (d : ExtendedType) → is_scalar_type d ≡ true → is_input_type d ≡ true
scalar_is_input (Scalar d) is = refl
scalar_is_input _ is = absurd (let no : ⊥ = cc in no)

-- a look-up in one list and then in another
module _ {K V : Type 0} (test : K → Bool) where
  found_first : (xs ys : List (K × V)) (v : V) → lookup test xs ≡ Some v → lookup test (xs ++ ys) ≡ Some v
  found_first [] ys v found = absurd (let no : ⊥ = cc in no)
  found_first (x ∷ xs) ys v found = by (test x.0) refl found (found_first xs ys v) where
    by : (b : Bool) → test x.0 ≡ b → lookup test (x ∷ xs) ≡ Some v → (lookup test xs ≡ Some v → lookup test (xs ++ ys) ≡ Some v) → lookup test (x ∷ (xs ++ ys)) ≡ Some v
    by true passes found behind = rw passes (rw passes at found)
    by false other found behind = rw other (behind (rw other at found))

  found_behind : (xs ys : List (K × V)) → lookup test xs ≡ None → lookup test (xs ++ ys) ≡ lookup test ys
  found_behind [] ys none = refl
  found_behind (x ∷ xs) ys none = by (test x.0) refl none (found_behind xs ys) where
    by : (b : Bool) → test x.0 ≡ b → lookup test (x ∷ xs) ≡ None → (lookup test xs ≡ None → lookup test (xs ++ ys) ≡ lookup test ys) → lookup test (x ∷ (xs ++ ys)) ≡ lookup test ys
    by true passes none behind = absurd (let found : Some x.1 ≡ None = rw passes at none in let no : ⊥ = cc in no)
    by false other none behind = rw other (behind (rw other at none))

-- a type to which the schema refers is used
pub used_from : (schema : Schema) (name : NameText) → Contains (types_referred schema) name → uses_type schema name.text ≡ true
used_from schema name (k, within, at) =
    list_any-from_Any (λ (n : NameText). bytes_eq n.text name.text) (types_referred schema) (k, name, within, at, (bytes_eq-Decides name.text name.text).1 refl)

module _ (schema retained : Schema) (is : SchemaRetainsUsedBuiltInScalars schema retained) (name : NameText) (used : uses_type schema name.text ≡ true) where
  pub kept_same : lookup (same_name name) (kept_types schema) ≡ type_definition schema name
  kept_same =
      found_in_filter (same_name name) (λ entry. not (is_unused_built_in schema entry)) schema.types.entries
      (each_standing (λ (e : Entry). same_name name e.0 ≡ true → not (is_unused_built_in schema e) ≡ true) schema.types.entries
      (λ e stands same. used_stays (is_built_in e.1) (names_built_in_scalar e.0.text) (uses_type schema e.0.text)
      (ap (uses_type schema) (sym (same_text name e.0 same)) ∙ used)))

  -- what was under the name still is
  pub still_found : (d : ExtendedType) → type_definition schema name ≡ Some d → type_definition retained name ≡ Some d
  still_found d found = ap (lookup (same_name name)) is.types.1 ∙ found_first (same_name name) (kept_types schema) is.types.0 d (kept_same ∙ found)

  lacks : type_definition schema name ≡ None → has_type schema name.text ≡ false
  lacks none = by (has_type schema name.text) refl where
    by : (b : Bool) → has_type schema name.text ≡ b → has_type schema name.text ≡ false
    by false has = has
    by true has =
        let (k, entry, within, at, same) = Any-from_list_any (λ (entry : Entry). bytes_eq entry.0.text name.text) schema.types.entries has in
        let there : IsSome (type_definition schema name) =
        some_looked_up (same_name name) schema.types.entries
        (list_any-from_Any (λ (entry : Entry). same_name name entry.0) schema.types.entries (k, entry, within, at, same_name_back entry.0 name same)) in
        absurd (let some = subst IsSome none there in let no : ⊥ = cc in no)

  -- a scalar that the schema lacked is there now
  pub now_scalar : type_definition schema name ≡ None → names_built_in_scalar name.text ≡ true →
      (d : ExtendedType) × (type_definition retained name ≡ Some d) × (is_scalar_type d ≡ true)
  now_scalar none named =
      let added = is.types.0 in
      let (i, text, among, there, same) = Any-from_list_any (bytes_eq name.text) built_in_scalar_names named in
      let stands : Contains built_in_scalar_names name.text =
      subst (Contains built_in_scalar_names) (sym ((bytes_eq-Decides name.text text).0 same)) (i, among, there) in
      let missing : Contains (missing_scalars schema) name.text =
      kept_by_filter (λ text. uses_type schema text && not (has_type schema text)) built_in_scalar_names name.text stands (rw (used, lacks none) refl) in
      let (entry, come, key) = All-contains (λ text. (entry : Entry) × Contains added entry × (entry.0.text ≡ text)) (missing_scalars schema) name.text
      (added_for (missing_scalars schema) added is.types.2) missing in
      let passes : same_name name entry.0 ≡ true = (bytes_eq-Decides name.text entry.0.text).1 (sym key) in
      let some = some_is (lookup (same_name name) added)
      (some_looked_up (same_name name) added (list_any-from_Any (λ (e : Entry). same_name name e.0) added (come.0, entry, come.1, come.2, passes))) in
      let at = found_stands (same_name name) added some.0 some.1 in
      let is_added = All-contains IsAdded added (at.0, some.0) (each_added (missing_scalars schema) added is.types.2 (missing_known schema)) at.1 in (
        some.0,
        ap (lookup (same_name name)) is.types.1 ∙ found_behind (same_name name) (kept_types schema) added (kept_same ∙ none) ∙ some.1,
        ap is_scalar_type is_added.is_added.is_scalar,
      )

  -- a used type of inputs is one afterwards, and is defined
  pub still_input_type : NamesType schema is_input_type name → NamesKind retained is_input_type name
  still_input_type (inl (d, found, input)) = (d, still_found d found, input)
  still_input_type (inr (none, named)) = let d = now_scalar none named in (d.0, d.1, scalar_is_input d.0 d.2)

  -- what is no scalar was there before
  pub stood_before : (d : ExtendedType) → is_scalar_type d ≡ false → type_definition retained name ≡ Some d → type_definition schema name ≡ Some d
  stood_before d other found = by (type_definition schema name) refl where
    by_name : type_definition schema name ≡ None → (b : Bool) → names_built_in_scalar name.text ≡ b → type_definition schema name ≡ Some d
    by_name none true named =
        let s = now_scalar none named in
        let both : Some s.0 ≡ Some d = sym s.1 ∙ found in
        let same : s.0 ≡ d = cc in
        absurd (let no : true ≡ false = sym s.2 ∙ ap is_scalar_type same ∙ other in let never : ⊥ = cc in never)
    by_name none false elsewhere = sym (other_type schema retained is name elsewhere) ∙ found

    by : (o : Option ExtendedType) → type_definition schema name ≡ o → type_definition schema name ≡ Some d
    by (Some e) here =
        let both : Some e ≡ Some d = sym (still_found e here) ∙ found in
        here ∙ both
    by None none = by_name none (names_built_in_scalar name.text) refl
