-- The fields of a list under names, one more field at a time.
use Rattle.std.proofs.Common.{◌≡◌, Bool, true, false, cond, List, [], ◌∷◌, ◌++◌, Option, Some, None, Vec, refl, sym, ◌∙◌, ap, fold, get_or, length, map, arith}
use Rattle.std.specs.Prelude.{filter, filter_map, unwrap_or}
use Rattle.std.specs.Borrow.{Bor}
use Rattle.std.specs.List.{cons_option}
use Rattle.std.specs.Map.{lookup}
use Rattle.std.specs.Option.{option_map, option_map_or}
use Rattle.std.specs.declared.alloc.Global.{Global}
use Rattle.std.proofs.lemmas.Grind.{fold-append}
use Rattle.std.proofs.lemmas.List.{append-nil, append_assoc, length-map, map-append}
use Rattle.std.proofs.lemmas.Simd.{map-map}
use Rattle.std.proofs.lemmas.List.Elements.{filter-append, filter_map-append}
use Rattle.indexmap.specs.IndexMap.{insert_entry}
use Rattle.graphql_specification.specs.MergedSets.{is_abstract, is_object_named, with_parents, groups_of, groups_on, key_of, keys_of, object_name, objects_of, on_object, under_key, unless_empty}
use Rattle.graphql_specification.specs.Merging.{shape_pass}
use Rattle.graphql_specification.specs.Merging as merging
use Rattle.graphql_nodes.specs.Names.{NameText, different_names, same_name, stands_on, with_name}
use Rattle.graphql_documents.specs.Schemas.{is_composite, type_definition}
use Rattle.graphql_documents.specs.declared.documents.schemas.ExtendedType.TheVariants.{Object}
use Rattle.graphql_documents.specs.declared.documents.schemas.ExtendedType.{ExtendedType}
use Rattle.graphql_documents.specs.declared.documents.schemas.Schema.{Schema}
use Rattle.graphql_nodes.proofs.NameLemmas.{same_name_itself}
use Rattle.graphql_documents.proofs.ImplementerLemmas.{Apart, apart_folded, inserted, neither, same_swapped, stands_folded}
use Rattle.graphql_merging.specs.NumberedFields.{listed, lists_of, selection_of}
use Rattle.graphql_merging.specs.Groups.{NamedFields, by_keys, by_objects, with_field, with_field_if, with_keyed, with_owned}
use Rattle.graphql_merging.specs.NumberedGroups.{named_fields}
use Rattle.graphql_merging.specs.declared.numbered_fields.NumberedField.{NumberedField}

-- names, each with the fields that pass a test for it
module _ (passes : NameText → merging.FieldSelection → Bool) where
  abbrev made : List NameText → List merging.FieldSelection → NamedFields
  made names seen = map (λ n. (n, filter (passes n) seen)) names

  one_more : (n : NameText) (seen : List merging.FieldSelection) (x : merging.FieldSelection) → passes n x ≡ true →
      filter (passes n) (seen ++ x ∷ []) ≡ filter (passes n) seen ++ x ∷ []
  one_more n seen x e = filter-append (passes n) seen (x ∷ []) ∙ ap (λ b. filter (passes n) seen ++ cond b (x ∷ []) []) e

  no_more : (n : NameText) (seen : List merging.FieldSelection) (x : merging.FieldSelection) → passes n x ≡ false →
      filter (passes n) (seen ++ x ∷ []) ≡ filter (passes n) seen
  no_more n seen x e =
      filter-append (passes n) seen (x ∷ []) ∙ ap (λ b. filter (passes n) seen ++ cond b (x ∷ []) []) e ∙ append-nil (filter (passes n) seen)

  made_more : (names : List NameText) (seen : List merging.FieldSelection) (n : NameText) (x : merging.FieldSelection) → Apart names →
      ((i : NameText) → passes i x ≡ same_name n i) → (stands_on names n ≡ false → filter (passes n) seen ≡ []) →
      with_field (made names seen) n x ≡ made (with_name names n) (seen ++ x ∷ [])
  made_more names seen n x apart passing none =
      inserted (λ i. filter (passes i) seen) (λ i. filter (passes i) (seen ++ x ∷ [])) n (λ known. known ++ x ∷ []) []
      (λ i same. one_more i seen x (passing i ∙ same)) (λ i other. no_more i seen x (passing i ∙ other)) names apart none

-- what is made of a list is made field by field
module _ {S : Type 0} (step : S → merging.FieldSelection → S) (made_of : List merging.FieldSelection → S)
    (more : (seen : List merging.FieldSelection) (x : merging.FieldSelection) → step (made_of seen) x ≡ made_of (seen ++ x ∷ [])) where
  stepwise : (seen fields : List merging.FieldSelection) → fold step (made_of seen) fields ≡ made_of (seen ++ fields)
  stepwise seen [] = ap made_of (sym (append-nil seen))
  stepwise seen (x ∷ xs) =
      ap (λ known. fold step known xs) (more seen x) ∙ stepwise (seen ++ x ∷ []) xs ∙ ap made_of (append_assoc seen (x ∷ []) xs)

-- one more name behind others
last_name : (names : List NameText) (n : NameText) → different_names (names ++ n ∷ []) ≡ with_name (different_names names) n
last_name names n = fold-append with_name [] names (n ∷ [])

none_under : (seen : List merging.FieldSelection) (n : NameText) → stands_on (map key_of seen) n ≡ false → under_key n seen ≡ []
none_under [] n away = refl
none_under (x ∷ xs) n away =
    let parts = neither (same_name n (key_of x)) (stands_on (map key_of xs) n) away in
    rw (same_swapped (key_of x) n ∙ parts.0) (none_under xs n parts.1)

keyed_more : (seen : List merging.FieldSelection) (x : merging.FieldSelection) → with_keyed (by_keys seen) x ≡ by_keys (seen ++ x ∷ [])
keyed_more seen x =
    let keys = map key_of seen in
    made_more (λ n y. same_name (key_of y) n) (keys_of seen) seen (key_of x) x (apart_folded [] keys tt) (λ i. refl)
    (λ away. none_under seen (key_of x) (sym (stands_folded [] keys (key_of x)) ∙ away)) ∙
    ap (map (λ key. (key, under_key key (seen ++ x ∷ [])))) (sym (ap different_names (map-append key_of seen (x ∷ [])) ∙ last_name keys (key_of x)))

-- the fields by their keys are found one after another
pub keyed : (fields : List merging.FieldSelection) → fold with_keyed [] fields ≡ by_keys fields
keyed fields = stepwise with_keyed by_keys keyed_more [] fields

-- a type that is no object type has no own name
unnamed : (t : Option ExtendedType) → object_name t ≡ None → (n : NameText) → is_object_named n t ≡ false
unnamed (Some (Object d)) e n = absurd (let no : ⊥ = cc in no)
unnamed _ e n = refl

named_as : (t : Option ExtendedType) (n : NameText) → object_name t ≡ Some n → (i : NameText) → is_object_named i t ≡ same_name n i
named_as (Some (Object d)) n e i = let own : d.value.value.name ≡ n = cc in ap (λ (m : NameText). same_name m i) own
named_as _ n e i = absurd (let no : ⊥ = cc in no)

away_from : (t : Option ExtendedType) (rest : List NameText) (n : NameText) → stands_on (cons_option (object_name t) rest) n ≡ false →
    (is_object_named n t ≡ false) × (stands_on rest n ≡ false)
away_from (Some (Object d)) rest n away =
    let parts = neither (same_name n d.value.value.name) (stands_on rest n) away in
    (same_swapped d.value.value.name n ∙ parts.0, parts.1)
away_from _ rest n away = (refl, away)

module _ (schema : Schema) where
  abbrev own : merging.FieldSelection → Option NameText
  own x = object_name (type_definition schema x.parent)

  abbrev owns : List merging.FieldSelection → List NameText
  owns seen = filter_map own seen

  abbrev on_named : NameText → List merging.FieldSelection → List merging.FieldSelection
  on_named n seen = with_parents schema (is_object_named n) seen

  none_on : (seen : List merging.FieldSelection) (n : NameText) → stands_on (owns seen) n ≡ false → on_named n seen ≡ []
  none_on [] n away = refl
  none_on (x ∷ xs) n away =
      let parts = away_from (type_definition schema x.parent) (owns xs) n away in
      rw (parts.0) (none_on xs n parts.1)

  objects_more : (seen : List merging.FieldSelection) (x : merging.FieldSelection) (o : Option NameText) → own x ≡ o →
      objects_of schema (seen ++ x ∷ []) ≡ different_names (owns seen ++ cons_option o [])
  objects_more seen x o e = ap different_names (filter_map-append own seen (x ∷ []) ∙ ap (λ o. owns seen ++ cons_option o []) e)

  owned_more_as : (seen : List merging.FieldSelection) (x : merging.FieldSelection) (o : Option NameText) → own x ≡ o →
      with_field_if (by_objects schema seen) o x ≡ by_objects schema (seen ++ x ∷ [])
  owned_more_as seen x None e =
      let names = objects_more seen x None e ∙ ap different_names (append-nil (owns seen)) in
      let kept = λ (n : NameText). no_more (λ n y. is_object_named n (type_definition schema y.parent)) n seen x (unnamed (type_definition schema x.parent) e n) in
      λ j. map (λ n. (n, sym (kept n) j)) (sym names j)
  owned_more_as seen x (Some n) e =
      made_more (λ n y. is_object_named n (type_definition schema y.parent)) (objects_of schema seen) seen n x (apart_folded [] (owns seen) tt)
      (named_as (type_definition schema x.parent) n e) (λ away. none_on seen n (sym (stands_folded [] (owns seen) n) ∙ away)) ∙
      ap (map (λ name. (name, on_named name (seen ++ x ∷ [])))) (sym (objects_more seen x (Some n) e ∙ last_name (owns seen) n))

  -- the fields on object types are found one after another
  pub owned : (fields : List merging.FieldSelection) → fold (with_owned schema) [] fields ≡ by_objects schema fields
  owned fields = stepwise (with_owned schema) (by_objects schema) (λ seen x. owned_more_as seen x (own x) refl) [] fields

-- maps of lists of whatever has a field, as names with fields
module _ {X : Type 0} (field_in : X → merging.FieldSelection) where
  abbrev viewed : List (Bor NameText × Vec X Global) → NamedFields
  viewed entries = map (λ entry. (entry.0.now, map field_in entry.1.items)) entries

  found_as_fields : (entries : List (Bor NameText × Vec X Global)) (n : NameText) →
      lookup (same_name n) (viewed entries) ≡ option_map (λ fields. map field_in fields.items) (lookup (λ b. same_name n b.now) entries)
  found_as_fields [] n = refl
  found_as_fields (e ∷ es) n = by (same_name n e.0.now) (found_as_fields es n) where
    by : (b : Bool) → lookup (same_name n) (viewed es) ≡ option_map (λ fields. map field_in fields.items) (lookup (λ b. same_name n b.now) es) →
        cond b (Some (map field_in e.1.items)) (lookup (same_name n) (viewed es)) ≡
        option_map (λ (fields : Vec X Global). map field_in fields.items) (cond b (Some e.1) (lookup (λ b. same_name n b.now) es))
    by true behind = refl
    by false behind = behind

  entry_viewed : (new : Vec X Global) (entries : List (Bor NameText × Vec X Global)) (k : Bor NameText) →
      viewed (insert_entry (λ a b. same_name a.now b.now) entries k new) ≡ insert_entry same_name (viewed entries) k.now (map field_in new.items)
  entry_viewed new [] k = refl
  entry_viewed new (entry ∷ es) k = by (same_name k.now entry.0.now) refl (entry_viewed new es k) where
    by : (b : Bool) → same_name k.now entry.0.now ≡ b →
        viewed (insert_entry (λ a b. same_name a.now b.now) es k new) ≡ insert_entry same_name (viewed es) k.now (map field_in new.items) →
        viewed (insert_entry (λ a b. same_name a.now b.now) (entry ∷ es) k new) ≡ insert_entry same_name (viewed (entry ∷ es)) k.now (map field_in new.items)
    by true same behind = rw same refl
    by false other behind = rw other (ap (λ l. (entry.0.now, map field_in entry.1.items) ∷ l) behind)

  -- what was under a name, or nothing
  known_under : (o : Option (Vec X Global)) (none : Vec X Global) → none.items ≡ [] →
      map field_in (unwrap_or o none).items ≡ unwrap_or (option_map (λ (fields : Vec X Global). map field_in fields.items) o) []
  known_under None none empty = ap (map field_in) empty
  known_under (Some fields) none empty = refl

  -- a field that is put behind those under a name, if there are some
  pub put_as_fields : (entries : List (Bor NameText × Vec X Global)) (k : Bor NameText) (x : X) (none known new : Vec X Global) → none.items ≡ [] →
      known ≡ unwrap_or (lookup (λ b. same_name k.now b.now) entries) none → new.items ≡ known.items ++ x ∷ [] →
      viewed (insert_entry (λ a b. same_name a.now b.now) entries k new) ≡ with_field (viewed entries) k.now (field_in x)
  put_as_fields entries k x none known new empty found is =
      entry_viewed new entries k ∙
      ap (insert_entry same_name (viewed entries) k.now)
      (ap (map field_in) is ∙ map-append field_in known.items (x ∷ []) ∙
      ap (λ l. l ++ field_in x ∷ [])
      (ap (λ (fields : Vec X Global). map field_in fields.items) found ∙
      known_under (lookup (λ b. same_name k.now b.now) entries) none empty ∙
      ap (λ o. unwrap_or o []) (sym (found_as_fields entries k.now))))

-- a map of lists of fields with the numbers of their contents
abbrev Entries : Type 0
Entries = List (Bor NameText × Vec NumberedField Global)

-- the lists of a map, as those under its names
pub lists_viewed : (entries : Entries) → lists_of (map (λ e. e.1) entries) ≡ map (λ entry. entry.1) (named_fields entries)
lists_viewed [] = refl
lists_viewed (e ∷ es) = ap (λ l. listed e.1.items ∷ l) (lists_viewed es)

-- the fields under the keys are the groups of the shape pass
pub lists_by_keys : (schema : Schema) (fields : List merging.FieldSelection) → map (λ entry. entry.1) (by_keys fields) ≡ groups_of schema shape_pass fields
lists_by_keys schema fields = map-map (λ (entry : NameText × List merging.FieldSelection). entry.1) (λ key. (key, under_key key fields)) (keys_of fields)

-- where some field is on an object type
groups_on_objects : (schema : Schema) (fields : List merging.FieldSelection) (names : List NameText) → ¬ (names ≡ []) →
    map (on_object schema fields) names ≡ groups_on schema fields names
groups_on_objects schema fields [] some = absurd (some refl)
groups_on_objects schema fields (n ∷ ns) some = refl

with_rest : (rest : List merging.FieldSelection) (entries : Entries) →
    map (λ group. listed group.items ++ rest) (map (λ e. e.1) entries) ≡ map (λ entry. entry.1 ++ rest) (named_fields entries)
with_rest rest [] = refl
with_rest rest (e ∷ es) = ap (λ l. (listed e.1.items ++ rest) ∷ l) (with_rest rest es)

-- a map of some fields on object types gives their groups
pub lists_on_objects : (schema : Schema) (fields : List merging.FieldSelection) (entries : Entries) (rest : List merging.FieldSelection) →
    named_fields entries ≡ by_objects schema fields → rest ≡ with_parents schema is_abstract fields → ¬ (length entries ≡ 0) →
    map (λ group. listed group.items ++ rest) (map (λ e. e.1) entries) ≡ groups_on schema fields (objects_of schema fields)
lists_on_objects schema fields entries rest found on_abstract some =
    let on_named = λ (name : NameText). with_parents schema (is_object_named name) fields in
    with_rest rest entries ∙ ap (map (λ entry. entry.1 ++ rest)) found ∙
    map-map (λ (entry : NameText × List merging.FieldSelection). entry.1 ++ rest) (λ name. (name, on_named name)) (objects_of schema fields) ∙
    ap (λ l. map (λ name. on_named name ++ l) (objects_of schema fields)) on_abstract ∙
    groups_on_objects schema fields (objects_of schema fields)
    (λ none. some (sym (length-map entries (λ entry. (entry.0.now, listed entry.1.items))) ∙ ap length (found ∙ ap (map (λ name. (name, on_named name))) none)))

-- the list of the only field
only_field : (fields : List NumberedField) (x : NumberedField) → length fields ≡ 1 → x ≡ get_or fields 0 x → listed fields ≡ selection_of x ∷ []
only_field [] x one is = absurd (let no : ⊥ = cc in no)
only_field (y ∷ []) x one is = ap (λ z. selection_of z ∷ []) (sym is)
only_field (y ∷ z ∷ rest) x one is = absurd (let no : ⊥ = omega arith in no)

module _ (schema : Schema) where
  -- a field alone is a group where it is on a composite type
  alone_among : (x : merging.FieldSelection) (t : Option ExtendedType) → type_definition schema x.parent ≡ t →
      groups_on schema (x ∷ []) (different_names (cons_option (object_name t) [])) ≡ cond (option_map_or is_composite t false) ((x ∷ []) ∷ []) []
  alone_among x (Some (Object d)) e =
      let name = d.value.value.name in
      ap (λ t. (cond (is_object_named name t) (x ∷ []) [] ++ cond (is_abstract t) (x ∷ []) []) ∷ []) e ∙
      ap (λ b. (cond b (x ∷ []) [] ++ []) ∷ []) (same_name_itself name)
  alone_among x _ e = ap (λ t. unless_empty (cond (is_abstract t) (x ∷ []) [])) e

  alone_on : (x : merging.FieldSelection) →
      groups_on schema (x ∷ []) (objects_of schema (x ∷ [])) ≡ cond (option_map_or is_composite (type_definition schema x.parent) false) ((x ∷ []) ∷ []) []
  alone_on x = alone_among x (type_definition schema x.parent) refl

  alone_in : (fields : List NumberedField) (x : NumberedField) (b : Bool) → length fields ≡ 1 → x ≡ get_or fields 0 x →
      option_map_or is_composite (type_definition schema x.parent_type.now) false ≡ b →
      groups_on schema (listed fields) (objects_of schema (listed fields)) ≡ cond b (listed fields ∷ []) []
  alone_in fields x b one is composite =
      let only = only_field fields x one is in
      ap (λ l. groups_on schema l (objects_of schema l)) only ∙ alone_on (selection_of x) ∙
      ap (λ b. cond b ((selection_of x ∷ []) ∷ []) []) composite ∙ ap (λ l. cond b (l ∷ []) []) (sym only)

  pub added_alone : (groups : List (Vec NumberedField Global)) (group : Vec NumberedField Global) (x : NumberedField) →
      length group.items ≡ 1 → x ≡ get_or group.items 0 x → option_map_or is_composite (type_definition schema x.parent_type.now) false ≡ true →
      lists_of (groups ++ group ∷ []) ≡ lists_of groups ++ groups_on schema (listed group.items) (objects_of schema (listed group.items))
  added_alone groups group x one is composite =
      map-append (λ fields. listed fields.items) groups (group ∷ []) ∙ ap (λ l. lists_of groups ++ l) (sym (alone_in group.items x true one is composite))

  pub left_alone : (groups : List (List merging.FieldSelection)) (fields : List NumberedField) (x : NumberedField) →
      length fields ≡ 1 → x ≡ get_or fields 0 x → option_map_or is_composite (type_definition schema x.parent_type.now) false ≡ false →
      groups ≡ groups ++ groups_on schema (listed fields) (objects_of schema (listed fields))
  left_alone groups fields x one is composite =
      sym (append-nil groups) ∙ ap (λ l. groups ++ l) (sym (alone_in fields x false one is composite))
