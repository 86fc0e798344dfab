-- An input object has a value that can be written down, where the type of each of its fields has one.
use Rattle.std.proofs.Common.{◌≡◌, ◌≢◌, ℕ, suc, ◌<◌, ◌^◌, Bool, true, false, ◌&&◌, List, [], ◌∷◌, length, Some, refl, sym, ap, subst, ◌∙◌, Contains, Vec, Global}
use Rattle.std.specs.Prelude.{All, IsSome, find, option_map}
use Rattle.std.specs.Cmp.{on_equiv, IsEquivalence}
use Rattle.std.specs.Cmp.Lexicographic.{nat_list_eq_equiv}
use Rattle.std.specs.List.{AllZip}
use Rattle.std.specs.Map.{lookup}
use Rattle.std.specs.Str.{bytes_eq}
use Rattle.std.proofs.lemmas.List.Elements.{All-nil, All-cons, All-head, All-tail, All-contains, All-weaker}
use Rattle.std.proofs.lemmas.Map.Views.{lookup-from_Contains}
use Rattle.graphql_nodes.specs.Names.{NameText, SameName, same_name}
use Rattle.graphql_documents.specs.TypeReferences.{inner_named_type, is_non_null}
use Rattle.graphql_documents.specs.Values.{in_object, VariablesInEntries, no_entries, next_entry, entry_named}
use Rattle.graphql_specification.specs.Values.{Accepts, accepts_object, IsFieldProvided, IsInputField}
use Rattle.graphql_documents.specs.Schemas.{IsInputObject}
use Rattle.graphql_documents.specs.declared.documents.components.Component.{Component}
use Rattle.graphql_documents.specs.declared.documents.definitions.InputValueDefinition.{InputValueDefinition}
use Rattle.graphql_nodes.specs.declared.nodes.Node.{Node}
use Rattle.graphql_documents.specs.declared.documents.type_references.Type.{«Type»}
use Rattle.graphql_documents.specs.declared.documents.values.Value.{Value}
use Rattle.graphql_documents.specs.declared.documents.values.Value.TheVariants as literal
use Rattle.graphql_documents.specs.declared.documents.schemas.InputObjectType.{InputObjectType}
use Rattle.graphql_documents.specs.declared.documents.schemas.Schema.{Schema}
use Rattle.graphql_documents.proofs.ListLemmas.{stands_first, stands_behind, each_standing}
use Rattle.graphql_nodes.proofs.NameLemmas.{same_text, same_name_itself}
use Rattle.graphql_schema_laws.specs.InputFields.{HasFieldsOfMap}
use Rattle.graphql_schema_laws.proofs.ValueLemmas.{HasValue, IsFiniteValue, vec_of, node_of, object_not_null}

-- a field of an input object, and an entry of an object value
abbrev Field : Type 0
Field = NameText × Component InputValueDefinition

abbrev Entry : Type 0
Entry = NameText × Node Value

abbrev pub type_of : Field → «Type»
type_of field = field.1.node.value.value.ty.value.value

same_name_equiv : IsEquivalence same_name
same_name_equiv = on_equiv (λ (a : NameText). a.text) nat_list_eq_equiv

-- what is found among entries passes, and where one passes something is found
found_among : (p : Entry → Bool) (entries : List Entry) (v : Node Value) → option_map (λ (e : Entry). e.1) (find p entries) ≡ Some v →
    (e : Entry) × Contains entries e × (p e ≡ true) × (e.1 ≡ v)
found_among p [] v is = absurd (let no : ⊥ = cc in no)
found_among p (x ∷ xs) v is = by (p x) refl (found_among p xs v) where
  by : (b : Bool) → p x ≡ b → (option_map (λ (e : Entry). e.1) (find p xs) ≡ Some v → (e : Entry) × Contains xs e × (p e ≡ true) × (e.1 ≡ v)) →
      (e : Entry) × Contains (x ∷ xs) e × (p e ≡ true) × (e.1 ≡ v)
  by true passes behind = let here : Some x.1 ≡ Some v = rw passes at is in (x, stands_first x xs, passes, (let same : x.1 ≡ v = cc in same))
  by false other behind = let rest = behind (rw other at is) in (rest.0, stands_behind x xs rest.0 rest.1, rest.2, rest.3)

some_found : (p : Entry → Bool) (entries : List Entry) → All (λ e. p e ≡ true → IsSome (option_map (λ (e : Entry). e.1) (find p entries))) entries
some_found p [] = All-nil (λ e. p e ≡ true → IsSome (option_map (λ (e : Entry). e.1) (find p [])))
some_found p (x ∷ xs) =
    All-cons (λ e. p e ≡ true → IsSome (option_map (λ (e : Entry). e.1) (find p (x ∷ xs)))) x xs (λ passes. rw passes refl)
    (All-weaker (λ e. p e ≡ true → IsSome (option_map (λ (e : Entry). e.1) (find p xs))) (λ e. p e ≡ true → IsSome (option_map (λ (e : Entry). e.1) (find p (x ∷ xs))))
    (λ e found passes. by (p x) refl (found passes)) xs (some_found p xs)) where
      by : (b : Bool) → p x ≡ b → IsSome (option_map (λ (e : Entry). e.1) (find p xs)) → IsSome (option_map (λ (e : Entry). e.1) (find p (x ∷ xs)))
      by true passes found = rw passes refl
      by false other found = rw other found

-- the entry is under the field's key, with a value for its type
record IsEntryFor (schema : Schema) (field : Field) (entry : Entry) : Type 0 where
  key : entry.0 ≡ field.0
  value : IsFiniteValue schema (type_of field) entry.1.value.value

entries_for : (schema : Schema) (fields : List Field) → All (λ field. HasValue schema (type_of field)) fields →
    (entries : List Entry) × AllZip (IsEntryFor schema) fields entries
entries_for schema [] all = ([], tt)
entries_for schema (f ∷ fs) all =
    let Has = λ (field : Field). HasValue schema (type_of field) in
    let (v, is) = All-head Has f fs all in
    let rest = entries_for schema fs (All-tail Has f fs all) in
    ((f.0, node_of v) ∷ rest.0, (record { key = refl; value = is }, rest.1))

module _ (schema : Schema) where
  no_variables : (fields : List Field) (entries : List Entry) → AllZip (IsEntryFor schema) fields entries → VariablesInEntries entries []
  no_variables [] [] zip = no_entries
  no_variables [] (e ∷ es) zip = absurd zip
  no_variables (f ∷ fs) [] zip = absurd zip
  no_variables (f ∷ fs) (e ∷ es) zip = next_entry zip.0.value.plain (no_variables fs es zip.1)

  as_many : (fields : List Field) (entries : List Entry) → AllZip (IsEntryFor schema) fields entries → length entries ≡ length fields
  as_many [] [] zip = refl
  as_many [] (e ∷ es) zip = absurd zip
  as_many (f ∷ fs) [] zip = absurd zip
  as_many (f ∷ fs) (e ∷ es) zip = ap suc (as_many fs es zip.1)

  each_for : (fields : List Field) (entries : List Entry) → AllZip (IsEntryFor schema) fields entries →
      All (λ entry. (field : Field) × Contains fields field × IsEntryFor schema field entry) entries
  each_for [] [] zip = All-nil (λ entry. (field : Field) × Contains [] field × IsEntryFor schema field entry)
  each_for [] (e ∷ es) zip = absurd zip
  each_for (f ∷ fs) [] zip = absurd zip
  each_for (f ∷ fs) (e ∷ es) zip =
      All-cons (λ entry. (field : Field) × Contains (f ∷ fs) field × IsEntryFor schema field entry) e es (f, stands_first f fs, zip.0)
      (All-weaker (λ entry. (field : Field) × Contains fs field × IsEntryFor schema field entry) (λ entry. (field : Field) × Contains (f ∷ fs) field × IsEntryFor schema field entry)
      (λ entry found. (found.0, stands_behind f fs found.0 found.1, found.2)) es (each_for fs es zip.1))

  each_given : (fields : List Field) (entries : List Entry) → AllZip (IsEntryFor schema) fields entries →
      All (λ field. (entry : Entry) × Contains entries entry × IsEntryFor schema field entry) fields
  each_given [] [] zip = All-nil (λ field. (entry : Entry) × Contains [] entry × IsEntryFor schema field entry)
  each_given [] (e ∷ es) zip = absurd zip
  each_given (f ∷ fs) [] zip = absurd zip
  each_given (f ∷ fs) (e ∷ es) zip =
      All-cons (λ field. (entry : Entry) × Contains (e ∷ es) entry × IsEntryFor schema field entry) f fs (e, stands_first e es, zip.0)
      (All-weaker (λ field. (entry : Entry) × Contains es entry × IsEntryFor schema field entry) (λ field. (entry : Entry) × Contains (e ∷ es) entry × IsEntryFor schema field entry)
      (λ field found. (found.0, stands_behind e es found.0 found.1, found.2)) fs (each_given fs es zip.1))

module _ (memory : Global) (schema : Schema) (ty : «Type») (d : Node InputObjectType) (is : IsInputObject schema (inner_named_type ty) d)
    (map_like : HasFieldsOfMap d.value.value) where
  abbrev fields : List Field
  fields = d.value.value.fields.entries

  -- the field is the only one of its name
  value_under : (field : Field) → Contains fields field → lookup (same_name field.0) fields ≡ Some field.1
  value_under field stands = lookup-from_Contains same_name_equiv field.0 field.1 fields map_like.unique stands

  only_field : (a b : Field) → Contains fields a → Contains fields b → SameName a.0 b.0 → a.1 ≡ b.1
  only_field a b in_a in_b same =
      let e : Some a.1 ≡ Some b.1 =
      sym (value_under a in_a) ∙ ap (λ (text : List ℕ). lookup (λ (key : NameText). bytes_eq text key.text) fields) (same_text a.0 b.0 same) ∙ value_under b in_b in cc

  module _ (entries : List Entry) (zip : AllZip (IsEntryFor schema) fields entries) where
    -- each entry under a field's name is for that field
    for_field : (field : Field) (entry : Entry) → Contains fields field → Contains entries entry → SameName entry.0 field.0 →
        IsFiniteValue schema (type_of field) entry.1.value.value
    for_field field entry stands in_entries same =
        let (other, stands', for) = All-contains (λ entry. (field : Field) × Contains fields field × IsEntryFor schema field entry) entries entry (each_for schema fields entries zip) in_entries in
        let one : other.1 ≡ field.1 = only_field other field stands' stands (subst (λ key. SameName key field.0) for.key same) in
        subst (λ (c : Component InputValueDefinition). IsFiniteValue schema c.node.value.value.ty.value.value entry.1.value.value) one for.value

    defined : All (λ entry. IsInputField d.value.value entry.0) entries
    defined =
        All-weaker (λ entry. (field : Field) × Contains fields field × IsEntryFor schema field entry) (λ entry. IsInputField d.value.value entry.0)
        (λ entry found. rw (found.2.key, value_under found.0 found.1) refl) entries (each_for schema fields entries zip)

    given : All (IsFieldProvided entries) fields
    given =
        each_standing (IsFieldProvided entries) fields (λ field stands required.
        let (entry, in_entries, for) = All-contains (λ field. (entry : Entry) × Contains entries entry × IsEntryFor schema field entry) fields field (each_given schema fields entries zip) stands in (
          All-contains (λ e. same_name e.0 field.0 ≡ true → IsSome (entry_named field.0 entries)) entries entry (some_found (λ e. same_name e.0 field.0) entries) in_entries
              (rw for.key (same_name_itself field.0)),
          each_standing (λ entry. SameName entry.0 field.0 → entry.1.value.value ≢ literal.Null) entries
              (λ entry in_entries same. (for_field field entry stands in_entries same).not_null (first_true (is_non_null (type_of field)) _ required)),
        )) where
          first_true : (a b : Bool) → (a && b) ≡ true → a ≡ true
          first_true true b e = refl
          first_true false b e = absurd (let no : ⊥ = cc in no)

    has_object : length entries < 2 ^ 63 → HasValue schema ty
    has_object small =
        let object : Vec Entry Global = vec_of memory entries small in (
          literal.Object object,
          record {
            plain = in_object object (no_variables schema fields entries zip);
            accepted = accepts_object object is defined given (λ field value stands named.
                let (entry, in_entries, same, at) = found_among (λ e. same_name e.0 field.0) entries value named in
                subst (λ (node : Node Value). Accepts schema [] (type_of field) node.value.value) at (for_field field entry stands in_entries same).accepted);
            not_null = λ _. object_not_null object;
          },
        )

  pub object_has : All (λ field. HasValue schema (type_of field)) fields → HasValue schema ty
  object_has all =
      let made = entries_for schema fields all in
      has_object made.0 made.1 (subst (λ n. n < 2 ^ 63) (sym (as_many schema fields made.0 made.1)) map_like.fits)
