-- What a schema that has its built-in scalars uses stands for the same once it is retained, and so does all that is no scalar.
use Rattle.std.proofs.Common.{◌≡◌, inl, inr, Bool, true, false, ◌&&◌, not, List, [], ◌∷◌, ◌++◌, Some, refl, sym, ap, subst, ◌∙◌, Contains, append-nil}
use Rattle.std.specs.Prelude.{IsTrue, filter, flat_map}
use Rattle.std.specs.Map.{lookup}
use Rattle.std.proofs.lemmas.List.Elements.{All-contains, All-contains_itself, All-filter, Contains-append_left, Contains-append_right}
use Rattle.graphql_nodes.specs.Names.{NameText, same_name}
use Rattle.graphql_documents.specs.Schemas.{Implements, IsInputObject, NamesKind, is_built_in, is_object_type, type_definition}
use Rattle.graphql_specification.specs.InputValueDefinitions.{NamesType}
use Rattle.graphql_specification.specs.BuiltInScalars.{SchemaRetainsUsedBuiltInScalars, argument_types, is_scalar_type, is_unused_built_in, kept_types, missing_scalars, names_built_in_scalar, types_referred_by, uses_type}
use Rattle.graphql_documents.specs.TypeReferences.{inner_named_type}
use Rattle.graphql_documents.specs.declared.documents.definitions.DirectiveDefinition.{DirectiveDefinition}
use Rattle.graphql_documents.specs.declared.documents.schemas.ExtendedType.{ExtendedType}
use Rattle.graphql_documents.specs.declared.documents.schemas.ExtendedType.TheVariants.{Object, InputObject}
use Rattle.graphql_documents.specs.declared.documents.schemas.InputObjectType.{InputObjectType}
use Rattle.graphql_documents.specs.declared.documents.schemas.Schema.{Schema}
use Rattle.graphql_nodes.specs.declared.nodes.Node.{Node}
use Rattle.graphql_documents.proofs.ListLemmas.{stands_behind, stands_first, stands_flat}
use Rattle.graphql_schema_laws.specs.BuiltInNames.{BuiltInNamesAreOfScalars, HasItsScalars}
use Rattle.graphql_schema_laws.proofs.FiniteValueLaws.{Field}
use Rattle.graphql_schema_laws.proofs.ObjectValueLemmas.{type_of}
use Rattle.graphql_schema_laws.proofs.RetainedInputLaws.{field_used, lists_nothing}
use Rattle.graphql_schema_laws.proofs.RetainedLaws.{Entry, none_added}
use Rattle.graphql_schema_laws.proofs.TypeLemmas.{type_stands}
use Rattle.graphql_schema_laws.proofs.UsedTypeLemmas.{kept_same, used_from}

-- a look-up in what a filter keeps, where it keeps what is found
module _ {K V : Type 0} (test : K → Bool) (p : K × V → Bool) where
  found_kept : (xs : List (K × V)) (v : V) → lookup test xs ≡ Some v → ((key : K) → Contains xs (key, v) → p (key, v) ≡ true) → lookup test (filter p xs) ≡ Some v
  found_kept [] v found kept = absurd (let no : ⊥ = cc in no)
  found_kept (x ∷ xs) v found kept = by (test x.0) refl (p x) refl (found_kept xs v) where
    by : (b : Bool) → test x.0 ≡ b → (c : Bool) → p x ≡ c →
        (lookup test xs ≡ Some v → ((key : K) → Contains xs (key, v) → p (key, v) ≡ true) → lookup test (filter p xs) ≡ Some v) →
        lookup test (filter p (x ∷ xs)) ≡ Some v
    by true passes c stays behind =
        let here : Some x.1 ≡ Some v = rw passes at found in
        let same : x.1 ≡ v = cc in
        let keeps : p x ≡ true = subst (λ w. p (x.0, w) ≡ true) (sym same) (kept x.0 (subst (λ w. Contains (x ∷ xs) (x.0, w)) same (stands_first x xs))) in
        rw (keeps, passes) here
    by false other true stays behind = rw (stays, other) (behind (rw other at found) (λ key within. kept key (stands_behind x xs (key, v) within)))
    by false other false goes behind = rw goes (behind (rw other at found) (λ key within. kept key (stands_behind x xs (key, v) within)))

other_stays : (b n u s : Bool) → (b ≡ true → n ≡ true → s ≡ true) → s ≡ false → not (b && (n && not u)) ≡ true
other_stays true true u s scalar other = absurd (let no : true ≡ false = sym (scalar refl refl) ∙ other in cc)
other_stays true false u s scalar other = refl
other_stays false n u s scalar other = refl

object_is_no_scalar : (d : ExtendedType) → is_object_type d ≡ true → is_scalar_type d ≡ false
object_is_no_scalar (Object d) is = refl
object_is_no_scalar _ is = absurd (let no : ⊥ = cc in no)

-- a type to which a definition of the schema refers is used
module _ (schema : Schema) (name : NameText) where
  abbrev by_directives : List NameText
  by_directives = flat_map (λ (entry : NameText × Node DirectiveDefinition). argument_types entry.1.value.value.arguments.items) schema.directive_definitions.entries

  abbrev by_types : List NameText
  by_types = flat_map (λ (entry : Entry). types_referred_by entry.1) schema.types.entries

  pub used_by_type : (entry : Entry) → Contains schema.types.entries entry → Contains (types_referred_by entry.1) name → uses_type schema name.text ≡ true
  used_by_type entry stands within =
      used_from schema name (Contains-append_right by_directives by_types name
      (stands_flat (λ (entry : Entry). types_referred_by entry.1) schema.types.entries entry name stands within))

  pub used_by_directive : (entry : NameText × Node DirectiveDefinition) → Contains schema.directive_definitions.entries entry →
      Contains (argument_types entry.1.value.value.arguments.items) name → uses_type schema name.text ≡ true
  used_by_directive entry stands within =
      used_from schema name (Contains-append_left by_directives by_types name
      (stands_flat (λ (entry : NameText × Node DirectiveDefinition). argument_types entry.1.value.value.arguments.items) schema.directive_definitions.entries entry name stands within))

-- what is kept was in the schema
pub kept_stood : (schema : Schema) (entry : Entry) → Contains (kept_types schema) entry → Contains schema.types.entries entry
kept_stood schema entry kept =
    All-contains (Contains schema.types.entries) (kept_types schema) entry
    (All-filter (λ entry. not (is_unused_built_in schema entry)) (Contains schema.types.entries) schema.types.entries (All-contains_itself schema.types.entries)) kept

module _ (schema retained : Schema) (scalars : BuiltInNamesAreOfScalars schema) (has : HasItsScalars schema) (is : SchemaRetainsUsedBuiltInScalars schema retained) where
  -- nothing is added
  pub types_kept : retained.types.entries ≡ kept_types schema
  types_kept =
      let (added, entries, each) = is.types in
      entries ∙ ap (λ l. kept_types schema ++ l) (none_added (missing_scalars schema) added has each) ∙ append-nil (kept_types schema)

  pub used_same : (name : NameText) → uses_type schema name.text ≡ true → type_definition retained name ≡ type_definition schema name
  used_same name used = ap (lookup (same_name name)) types_kept ∙ kept_same schema retained is name used

  pub other_same : (name : NameText) (d : ExtendedType) → type_definition schema name ≡ Some d → is_scalar_type d ≡ false → type_definition retained name ≡ Some d
  other_same name d found other =
      ap (lookup (same_name name)) types_kept ∙
      found_kept (same_name name) (λ entry. not (is_unused_built_in schema entry)) schema.types.entries d found
      (λ key within. other_stays (is_built_in d) (names_built_in_scalar key.text) (uses_type schema key.text) (is_scalar_type d)
      (All-contains (λ (entry : Entry). IsTrue (is_built_in entry.1) → IsTrue (names_built_in_scalar entry.0.text) → IsTrue (is_scalar_type entry.1)) schema.types.entries (key, d) scalars within) other)

  pub used_type : (test : ExtendedType → Bool) (name : NameText) → uses_type schema name.text ≡ true → NamesType schema test name → NamesType retained test name
  used_type test name used (inl (d, found, passes)) = inl (d, used_same name used ∙ found, passes)
  used_type test name used (inr (none, named)) = inr (used_same name used ∙ none, named)

  pub same_object : (name : NameText) → NamesKind schema is_object_type name → NamesKind retained is_object_type name
  same_object name (d, found, object) = (d, other_same name d found (object_is_no_scalar d object), object)

  pub still_implements : (name interface : NameText) → Implements schema name interface → Implements retained name interface
  still_implements name interface i = record {
    definition = i.definition;
    defined = other_same name i.definition i.defined (lists_nothing i.definition interface i.lists (is_scalar_type i.definition) refl);
    lists = i.lists;
  }

  -- the types of the fields of a used input object are used
  pub used_goes_on : (name : NameText) (d : Node InputObjectType) (field : Field) → uses_type schema name.text ≡ true → IsInputObject schema name d →
      Contains d.value.value.fields.entries field → uses_type schema (inner_named_type (type_of field)).text ≡ true
  used_goes_on name d field used found within =
      let there = type_stands schema name (InputObject d) found in
      field_used schema retained is d (there.0, there.1) field within
