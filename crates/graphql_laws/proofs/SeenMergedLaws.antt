-- Each merged list was seen: a walk that passes over lists whose fields compare as equal to those of one that it
-- has seen misses none, but for that.
use Rattle.std.proofs.Common.{◌≡◌, ◌≢◌, ◌∷◌, ◌++◌, ◌∙◌, ◌||◌, [], Bool, Contains, List, None, Option, Some, ap, false, inl, inr, map, refl, subst, sym, true}
use Rattle.std.proofs.lemmas.List.Elements.{Contains-append_cases}
use Rattle.std.specs.List.{AllZip, cons_option, list_any}
use Rattle.std.specs.Prelude.{IsFalse, IsTrue, filter, filter_map, is_some, slice_get}
use Rattle.std.specs.Str.{bytes_eq}
use lib.Pointwise.{pointwise}
use Rattle.graphql_documents.proofs.ContentLemmas.{equality_of_fields}
use Rattle.graphql_documents.specs.Contents.{SameField}
use Rattle.graphql_specification.specs.MergedSets.{ExpandsFrom, FragmentSets, IsGroup, MergedSet, as_field, expand_next, expanded, fields_standing, followed_by, group_by_key, group_by_object, group_of_abstract, into_inline_fragment, into_spread, is_abstract, is_object, is_object_named, merged_below, merged_operation, nested_sets, no_more, past_field, past_spread, with_key_of, with_parents, HasSeen}
use Rattle.graphql_specification.specs.Merging.{Pass, FieldSelection, SameFields, set_of}
use Rattle.graphql_nodes.specs.Names.{NameText, SameName, same_name}
use Rattle.graphql_documents.specs.Schemas.{type_definition}
use Rattle.graphql_documents.specs.Selections.{Fragments, fragments_of, response_key, selections_of}
use Rattle.graphql_documents.specs.declared.documents.executables.ExecutableDocument.{ExecutableDocument}
use Rattle.graphql_documents.specs.declared.documents.executables.Fragment.{Fragment}
use Rattle.graphql_documents.specs.declared.documents.executables.Operation.{Operation}
use Rattle.graphql_documents.specs.declared.documents.executables.Selection.TheOpen as Open
use Rattle.graphql_documents.specs.declared.documents.executables.Selection.TheVariants as kind
use Rattle.graphql_documents.specs.declared.documents.executables.Selection.{Selection, out-Selection}
use Rattle.graphql_documents.specs.declared.documents.executables.SelectionSet.{SelectionSet}
use Rattle.graphql_nodes.specs.declared.nodes.Node.{Node}
use Rattle.graphql_documents.specs.declared.documents.schemas.ExtendedType.{ExtendedType}
use Rattle.graphql_documents.specs.declared.documents.schemas.Schema.{Schema}
use Rattle.graphql_documents.proofs.ListLemmas.{none_stands, only_one, stands_behind, stands_first}
use Rattle.graphql_nodes.proofs.NameLemmas.{same_text}
use Rattle.graphql_documents.proofs.SelectionLemmas.{one_fragment_found}
use Rattle.graphql_laws.specs.Equality.{field_equality}
use Rattle.graphql_laws.proofs.FieldContentsLaws.{EqualOpen, Opened, equal_selections, equal_sets, field_sets, fields_alike, inline_sets, is_field, is_inline, is_spread, opened, same_fields_then, set_itself_equal, set_parts, spread_names}
use Rattle.graphql_laws.proofs.VisitedNameLemmas.{visited_alike}
use Rattle.graphql_laws.proofs.OneExpansionLaws.{one_expansion}
use Rattle.graphql_laws.proofs.SchemaLaws.{one_type_found}
use Rattle.graphql_laws.proofs.ValueContentsLaws.{both}

-- ==== lists whose elements correspond

zip_append : {X Y : Type 0} (R : X → Y → Type 0) (ws bs : List X) (cs ds : List Y) → AllZip R ws cs → AllZip R bs ds → AllZip R (ws ++ bs) (cs ++ ds)
zip_append R [] bs [] ds a b = b
zip_append R [] bs (c ∷ cs) ds a b = absurd a
zip_append R (x ∷ ws) bs [] ds a b = absurd a
zip_append R (x ∷ ws) bs (c ∷ cs) ds a b = (a.0, zip_append R ws bs cs ds a.1 b)

zip_filter : {X Y : Type 0} (R : X → Y → Type 0) (p : X → Bool) (q : Y → Bool) → ((x : X) (y : Y) → R x y → p x ≡ q y) → (xs : List X) (ys : List Y) → AllZip R xs ys →
    AllZip R (filter p xs) (filter q ys)
zip_filter R p q alike [] [] z = z
zip_filter R p q alike [] (y ∷ ys) z = absurd z
zip_filter R p q alike (x ∷ xs) [] z = absurd z
zip_filter R p q alike (x ∷ xs) (y ∷ ys) z = one_more (p x) refl (zip_filter R p q alike xs ys z.1) where
  one_more : (b : Bool) → p x ≡ b → AllZip R (filter p xs) (filter q ys) → AllZip R (filter p (x ∷ xs)) (filter q (y ∷ ys))
  one_more true is rest = let other : q y ≡ true = sym (alike x y z.0) ∙ is in rw (is, other) (z.0, rest)
  one_more false is rest = let other : q y ≡ false = sym (alike x y z.0) ∙ is in rw (is, other) rest

zip_map : {X Y Z W : Type 0} (R : X → Y → Type 0) (S : Z → W → Type 0) (f : X → Z) (g : Y → W) → ((x : X) (y : Y) → R x y → S (f x) (g y)) → (xs : List X) (ys : List Y) →
    AllZip R xs ys → AllZip S (map f xs) (map g ys)
zip_map R S f g alike [] [] z = z
zip_map R S f g alike [] (y ∷ ys) z = absurd z
zip_map R S f g alike (x ∷ xs) [] z = absurd z
zip_map R S f g alike (x ∷ xs) (y ∷ ys) z = (alike x y z.0, zip_map R S f g alike xs ys z.1)

zip_weaker : {X Y : Type 0} (R S : X → Y → Type 0) → ((x : X) (y : Y) → R x y → S x y) → (xs : List X) (ys : List Y) → AllZip R xs ys → AllZip S xs ys
zip_weaker R S weaker [] [] z = z
zip_weaker R S weaker [] (y ∷ ys) z = absurd z
zip_weaker R S weaker (x ∷ xs) [] z = absurd z
zip_weaker R S weaker (x ∷ xs) (y ∷ ys) z = (weaker x y z.0, zip_weaker R S weaker xs ys z.1)

zip_nil : {X Y : Type 0} (R : X → Y → Type 0) (ys : List Y) → AllZip R [] ys → ys ≡ []
zip_nil R [] z = refl
zip_nil R (y ∷ ys) z = absurd z

zip_nil_back : {X Y : Type 0} (R : X → Y → Type 0) (xs : List X) → AllZip R xs [] → xs ≡ []
zip_nil_back R [] z = refl
zip_nil_back R (x ∷ xs) z = absurd z

-- the like of an element
zip_like : {X Y : Type 0} (R : X → Y → Type 0) (xs : List X) (ys : List Y) → AllZip R xs ys → (x : X) → Contains xs x → (y : Y) × Contains ys y × R x y
zip_like R [] ys z x stands = absurd (none_stands x stands)
zip_like R (u ∷ us) [] z x stands = absurd z
zip_like R (u ∷ us) (v ∷ vs) z x stands = elim (Contains-append_cases (u ∷ []) us x stands) [
  | inl here ↦ (v, stands_first v vs, subst (λ w. R w v) (sym (only_one u x here)) z.0)
  | inr behind ↦ let l = zip_like R us vs z.1 x behind in (l.0, stands_behind v vs l.0 l.1, l.2)
]

-- ==== selections, sets and expansions that are equal

abbrev AlikeField : FieldSelection → FieldSelection → Type 0
AlikeField a b = SameName a.parent b.parent × IsTrue (field_equality a.field.value.value b.field.value.value)

as_equal : (xs ys : List FieldSelection) → SameFields xs ys → AllZip AlikeField xs ys
as_equal = zip_weaker (λ a b. SameName a.parent b.parent × SameField a.field.value.value b.field.value.value) AlikeField
    (λ x y h. (h.0, (equality_of_fields x.field.value.value y.field.value.value).1 h.1))

as_same : (xs ys : List FieldSelection) → AllZip AlikeField xs ys → SameFields xs ys
as_same = zip_weaker AlikeField (λ a b. SameName a.parent b.parent × SameField a.field.value.value b.field.value.value)
    (λ x y h. (h.0, (equality_of_fields x.field.value.value y.field.value.value).0 h.1))

abbrev AlikeSets : SelectionSet → SelectionSet → Type 0
AlikeSets a b = IsTrue (equal_sets a b)

abbrev AlikeNames : List NameText → List NameText → Type 0
AlikeNames seen seen' = (k : NameText) → list_any (same_name k) seen ≡ list_any (same_name k) seen'

same_before : (k a b : NameText) → SameName a b → same_name k a ≡ same_name k b
same_before k a b same = ap (bytes_eq k.text) (same_text a b same)

-- the field that a selection is, and those of selections that are equal
abbrev field_of : NameText → Opened → Option FieldSelection
field_of parent o = elim o [
  | Open.Field f ↦ Some (record { parent = parent; field = f })
  | Open.FragmentSpread p ↦ None
  | Open.InlineFragment i ↦ None
]

in_front : (parent other : NameText) → SameName parent other → (a b : Opened) → EqualOpen a b → (us vs : List FieldSelection) → AllZip AlikeField us vs →
    AllZip AlikeField (cons_option (field_of parent a) us) (cons_option (field_of other b) vs)
in_front parent other same (Open.Field f) (Open.Field g) e us vs z = ((same, e), z)
in_front parent other same (Open.FragmentSpread f) (Open.FragmentSpread g) e us vs z = z
in_front parent other same (Open.InlineFragment f) (Open.InlineFragment g) e us vs z = z
in_front parent other same _ _ e us vs z = absurd e

standing : (parent other : NameText) → SameName parent other → (xs ys : List Selection) → IsTrue (pointwise equal_selections xs ys) →
    AllZip AlikeField (filter_map (as_field parent) xs) (filter_map (as_field other) ys)
standing parent other same [] [] h = tt
standing parent other same [] (y ∷ ys) h = absurd (let no : ⊥ = cc in no)
standing parent other same (x ∷ xs) [] h = absurd (let no : ⊥ = cc in no)
standing parent other same (x ∷ xs) (y ∷ ys) h =
    let parts = both (equal_selections x y) (pointwise equal_selections xs ys) h in
    in_front parent other same (out-Selection x) (out-Selection y) (opened x y parts.0) _ _ (standing parent other same xs ys parts.1)

module _ (document : ExecutableDocument) where
  abbrev F : Fragments
  F = fragments_of document

  -- the sets of the fragments among selections that are equal
  record FragmentsAlike (seen' : List NameText) (ys : List Selection) (sets : List SelectionSet) (visited : List NameText) : Type 0 where
    sets' : List SelectionSet
    visited' : List NameText
    found : FragmentSets F seen' ys sets' visited'
    alike : AllZip AlikeSets sets sets'
    names : AlikeNames visited visited'

  followed : (d e : Option (Node Fragment)) → d ≡ e → (sets sets' : List SelectionSet) → AllZip AlikeSets sets sets' → AllZip AlikeSets (followed_by d sets) (followed_by e sets')
  followed None e is sets sets' z = subst (λ o. AllZip AlikeSets sets (followed_by o sets')) is z
  followed (Some d) e is sets sets' z = subst (λ o. AllZip AlikeSets (d.value.value.selection_set ∷ sets) (followed_by o sets')) is (set_itself_equal d.value.value.selection_set, z)

  fragments_alike : {seen visited : List NameText} {xs : List Selection} {sets : List SelectionSet} → FragmentSets F seen xs sets visited →
      (ys : List Selection) → IsTrue (pointwise equal_selections xs ys) → (seen' : List NameText) → AlikeNames seen seen' → FragmentsAlike seen' ys sets visited
  fragments_alike no_more [] h seen' names = record { sets' = []; visited' = seen'; found = no_more; alike = tt; names = names }
  fragments_alike no_more (y ∷ ys) h seen' names = absurd (let no : ⊥ = cc in no)
  fragments_alike (past_field f rest more) [] h seen' names = absurd (let no : ⊥ = cc in no)
  fragments_alike {visited = visited} {sets = sets} (past_field f rest more) (y ∷ ys) h seen' names =
      let parts = both (equal_selections (kind.Field f) y) (pointwise equal_selections rest ys) h in
      let g = is_field f y parts.0 in
      let r = fragments_alike more ys parts.1 seen' names in
      subst (λ s. FragmentsAlike seen' (s ∷ ys) sets visited) (sym g.1)
      (record { sets' = r.sets'; visited' = r.visited'; found = past_field g.0 ys r.found; alike = r.alike; names = r.names })
  fragments_alike (into_inline_fragment i rest more) [] h seen' names = absurd (let no : ⊥ = cc in no)
  fragments_alike {visited = visited} (into_inline_fragment {sets = sets} i rest more) (y ∷ ys) h seen' names =
      let parts = both (equal_selections (kind.InlineFragment i) y) (pointwise equal_selections rest ys) h in
      let j = is_inline i y parts.0 in
      let r = fragments_alike more ys parts.1 seen' names in
      subst (λ s. FragmentsAlike seen' (s ∷ ys) (i.value.value.selection_set ∷ sets) visited) (sym j.1)
      (record {
        sets' = j.0.value.value.selection_set ∷ r.sets';
        visited' = r.visited';
        found = into_inline_fragment j.0 ys r.found;
        alike = (inline_sets i.value.value j.0.value.value j.2, r.alike);
        names = r.names;
      })
  fragments_alike (past_spread p rest there more) [] h seen' names = absurd (let no : ⊥ = cc in no)
  fragments_alike {visited = visited} {sets = sets} (past_spread {seen = seen} p rest there more) (y ∷ ys) h seen' names =
      let parts = both (equal_selections (kind.FragmentSpread p) y) (pointwise equal_selections rest ys) h in
      let q = is_spread p y parts.0 in
      let r = fragments_alike more ys parts.1 seen' names in
      let a = p.value.value.fragment_name in
      let b = q.0.value.value.fragment_name in
      let visited_b : IsTrue (list_any (same_name b) seen') = sym (names b) ∙ sym (visited_alike a b (spread_names p.value.value q.0.value.value q.2) seen) ∙ there in
      subst (λ s. FragmentsAlike seen' (s ∷ ys) sets visited) (sym q.1)
      (record { sets' = r.sets'; visited' = r.visited'; found = past_spread q.0 ys visited_b r.found; alike = r.alike; names = r.names })
  fragments_alike (into_spread p rest new more) [] h seen' names = absurd (let no : ⊥ = cc in no)
  fragments_alike {visited = visited} (into_spread {seen = seen} {sets = sets} p rest new more) (y ∷ ys) h seen' names =
      let parts = both (equal_selections (kind.FragmentSpread p) y) (pointwise equal_selections rest ys) h in
      let q = is_spread p y parts.0 in
      let a = p.value.value.fragment_name in
      let b = q.0.value.value.fragment_name in
      let same = spread_names p.value.value q.0.value.value q.2 in
      let r = fragments_alike more ys parts.1 (b ∷ seen') (λ k. ap (λ v. v || list_any (same_name k) seen) (same_before k a b same) ∙ ap (λ v. same_name k b || v) (names k)) in
      let new_b : IsFalse (list_any (same_name b) seen') = sym (names b) ∙ sym (visited_alike a b same seen) ∙ new in
      subst (λ s. FragmentsAlike seen' (s ∷ ys) (followed_by (F a) sets) visited) (sym q.1)
      (record {
        sets' = followed_by (F b) r.sets';
        visited' = r.visited';
        found = into_spread q.0 ys new_b r.found;
        alike = followed (F a) (F b) (one_fragment_found document a b same) sets r.sets' r.alike;
        names = r.names;
      })

  -- the expansions of sets that are equal
  record ExpandedAlike (seen' : List NameText) (queue' : List SelectionSet) (fields : List FieldSelection) : Type 0 where
    fields' : List FieldSelection
    found : ExpandsFrom F seen' queue' fields'
    alike : AllZip AlikeField fields fields'

  expands_alike : {seen : List NameText} {queue : List SelectionSet} {fields : List FieldSelection} → ExpandsFrom F seen queue fields →
      (queue' : List SelectionSet) → AllZip AlikeSets queue queue' → (seen' : List NameText) → AlikeNames seen seen' → ExpandedAlike seen' queue' fields
  expands_alike expanded [] z seen' names = record { fields' = []; found = expanded; alike = tt }
  expands_alike expanded (q ∷ qs) z seen' names = absurd z
  expands_alike (expand_next first more) [] z seen' names = absurd z
  expands_alike (expand_next {set = set} {queue = queue} {more = more} {fields = fields} first further) (q ∷ qs) z seen' names =
      let parts = set_parts set q z.0 in
      let f = fragments_alike first (selections_of q) parts.1 seen' names in
      let r = expands_alike further (qs ++ f.sets') (zip_append AlikeSets queue more qs f.sets' z.1 f.alike) f.visited' f.names in
      record {
        fields' = fields_standing q ++ r.fields';
        found = expand_next f.found r.found;
        alike = zip_append AlikeField (fields_standing set) fields (fields_standing q) r.fields' (standing set.ty q.ty parts.0 (selections_of set) (selections_of q) parts.1) r.alike;
      }

  -- fields alike have one key
  same_keys : (x y : FieldSelection) → AlikeField x y → SameName (response_key x.field.value.value) (response_key y.field.value.value)
  same_keys x y h = (fields_alike document x.field.value.value y.field.value.value ((equality_of_fields x.field.value.value y.field.value.value).0 h.1)).key

  keyed : (x y u v : FieldSelection) → AlikeField x y → AlikeField u v →
      same_name (response_key u.field.value.value) (response_key x.field.value.value) ≡ same_name (response_key v.field.value.value) (response_key y.field.value.value)
  keyed x y u v xy uv =
      ap (λ t. bytes_eq t (response_key x.field.value.value).text) (same_text (response_key u.field.value.value) (response_key v.field.value.value) (same_keys u v uv)) ∙
      same_before (response_key v.field.value.value) (response_key x.field.value.value) (response_key y.field.value.value) (same_keys x y xy)

  module _ (schema : Schema) where
    under_alike : (x y : FieldSelection) → AlikeField x y → (xs ys : List FieldSelection) → AllZip AlikeField xs ys → AllZip AlikeField (with_key_of x xs) (with_key_of y ys)
    under_alike x y xy xs ys z =
        zip_filter AlikeField (λ u. same_name (response_key u.field.value.value) (response_key x.field.value.value))
        (λ v. same_name (response_key v.field.value.value) (response_key y.field.value.value)) (λ u v uv. keyed x y u v xy uv) xs ys z

    on_alike : (test : Option ExtendedType → Bool) (xs ys : List FieldSelection) → AllZip AlikeField xs ys → AllZip AlikeField (with_parents schema test xs) (with_parents schema test ys)
    on_alike test xs ys z =
        zip_filter AlikeField (λ u. test (type_definition schema u.parent)) (λ v. test (type_definition schema v.parent)) (λ u v uv. ap test (one_type_found schema u.parent v.parent uv.0)) xs ys z

    record GroupAlike (pass : Pass) (ys group : List FieldSelection) : Type 0 where
      group' : List FieldSelection
      is_group : IsGroup schema ys pass group'
      alike : AllZip AlikeField group group'

    group_alike : {pass : Pass} {group xs : List FieldSelection} → IsGroup schema xs pass group → (ys : List FieldSelection) → AllZip AlikeField xs ys → GroupAlike pass ys group
    group_alike {xs = xs} (group_by_key {x = x} stands) ys z =
        let y = zip_like AlikeField xs ys z x stands in
        record { group' = with_key_of y.0 ys; is_group = group_by_key y.1; alike = under_alike x y.0 y.2 xs ys z }
    group_alike {xs = xs} (group_by_object {x = x} name stands object) ys z =
        let y = zip_like AlikeField xs ys z x stands in
        let under = under_alike x y.0 y.2 xs ys z in
        record {
          group' = with_parents schema (is_object_named name) (with_key_of y.0 ys) ++ with_parents schema is_abstract (with_key_of y.0 ys);
          is_group = group_by_object name y.1 (subst (λ o. IsTrue (is_object_named name o)) (one_type_found schema x.parent y.0.parent y.2.0) object);
          alike = zip_append AlikeField (with_parents schema (is_object_named name) (with_key_of x xs)) (with_parents schema is_abstract (with_key_of x xs))
              (with_parents schema (is_object_named name) (with_key_of y.0 ys)) (with_parents schema is_abstract (with_key_of y.0 ys))
              (on_alike (is_object_named name) (with_key_of x xs) (with_key_of y.0 ys) under) (on_alike is_abstract (with_key_of x xs) (with_key_of y.0 ys) under);
        }
    group_alike {xs = xs} (group_of_abstract {x = x} stands abstract' none) ys z =
        let y = zip_like AlikeField xs ys z x stands in
        let under = under_alike x y.0 y.2 xs ys z in
        let none' : with_parents schema is_object (with_key_of y.0 ys) ≡ [] =
        zip_nil AlikeField (with_parents schema is_object (with_key_of y.0 ys)) (subst (λ l. AllZip AlikeField l (with_parents schema is_object (with_key_of y.0 ys))) none
        (on_alike is_object (with_key_of x xs) (with_key_of y.0 ys) under)) in
        record {
          group' = with_parents schema is_abstract (with_key_of y.0 ys);
          is_group = group_of_abstract y.1 (subst (λ o. IsTrue (is_abstract o)) (one_type_found schema x.parent y.0.parent y.2.0) abstract') none';
          alike = on_alike is_abstract (with_key_of x xs) (with_key_of y.0 ys) under;
        }

    selects_alike : (xs ys : List Selection) → IsTrue (pointwise equal_selections xs ys) → is_some (slice_get xs 0) ≡ is_some (slice_get ys 0)
    selects_alike [] [] h = refl
    selects_alike [] (y ∷ ys) h = absurd (let no : ⊥ = cc in no)
    selects_alike (x ∷ xs) [] h = absurd (let no : ⊥ = cc in no)
    selects_alike (x ∷ xs) (y ∷ ys) h = refl

    nested_alike : (xs ys : List FieldSelection) → AllZip AlikeField xs ys → AllZip AlikeSets (nested_sets xs) (nested_sets ys)
    nested_alike xs ys z =
        zip_filter AlikeSets (λ set. is_some (slice_get (selections_of set) 0)) (λ set. is_some (slice_get (selections_of set) 0))
        (λ s t st. selects_alike (selections_of s) (selections_of t) (set_parts s t st).1) (map set_of xs) (map set_of ys)
        (zip_map AlikeField AlikeSets set_of set_of (λ x y xy. field_sets x.field.value.value y.field.value.value xy.1) xs ys z)

    -- a list that was seen has the same fields
    pub record WasSeen (seen : List (List FieldSelection)) (fields : List FieldSelection) : Type 0 where
      pub known : List FieldSelection
      pub is_seen : Contains seen known
      pub same_fields : SameFields fields known

    pub merged_was_seen : (operations : List (Node Operation)) {pass : Pass} (seen : List (List FieldSelection)) → HasSeen schema F operations pass seen →
        {fields : List FieldSelection} → MergedSet schema F operations pass fields → WasSeen seen fields
    merged_was_seen operations seen has {fields} (merged_operation {o = o} stands expands) =
        let e = has.begun o stands in
        record {
          known = e.known;
          is_seen = e.is_seen;
          same_fields = subst (λ l. SameFields l e.known) (one_expansion F e.expansion expands) e.same_fields;
        }
    merged_was_seen operations seen has {fields} (merged_below {fields = step_fields} above step) =
        let up = merged_was_seen operations seen has above in
        let g = group_alike step.is_group up.known (as_equal step_fields up.known up.same_fields) in
        let nested = nested_alike step.group g.group' g.alike in
        let filled : nested_sets g.group' ≢ [] = λ none. step.nested (zip_nil_back AlikeSets (nested_sets step.group) (subst (AllZip AlikeSets (nested_sets step.group)) none nested)) in
        let e = has.closed up.known g.group' up.is_seen g.is_group filled in
        let x = expands_alike step.expansion (nested_sets g.group') nested [] (λ k. refl) in
        let same : SameFields fields e.fields = as_same fields e.fields (subst (AllZip AlikeField fields) (one_expansion F x.found e.expansion) x.alike) in
        record { known = e.known; is_seen = e.is_seen; same_fields = same_fields_then fields e.fields e.known same e.same_fields }
