-- The groups of a list in order are its groups, and how many comparisons of shapes they take.
use Rattle.std.proofs.Common.{◌≡◌, ◌↔◌, ℕ, ◌+◌, ◌-◌, ◌≤◌, Bool, true, false, cond, List, [], ◌∷◌, ◌++◌, Option, Some, ◌⊎◌, inl, inr, refl, sym, ◌∙◌, ap, subst, All, Contains, length, map, arith}
use Rattle.std.specs.Prelude.{IsTrue, filter, filter_map, flat_map, fold, sum_by}
use Rattle.std.specs.Str.{bytes_eq}
use Rattle.std.proofs.lemmas.List.{length-map}
use Rattle.std.proofs.lemmas.List.Elements.{All-cons, All-contains, All-contains_itself, All-filter, All-head, All-nil, All-tail, All-weaker, Contains-append_cases, Contains-push_cases, filter_agree, filter_passes}
use Rattle.std.proofs.lemmas.List.Sums.{sum_by-cons}
use Rattle.graphql_specification.specs.MergedSets.{IsGroup, group_by_key, group_by_object, group_of_abstract, is_abstract, is_object, is_object_named, with_key_of, with_parents, comparisons_of, groups_of, groups_on, key_of, keys_of, object_name, objects_of, on_object, under_key, unless_empty}
use Rattle.graphql_specification.specs.Merging.{Pass, field_pass, shape_pass, FieldSelection}
use Rattle.graphql_nodes.specs.Names.{NameText, SameName, different_names, same_name, stands_on, with_name}
use Rattle.graphql_documents.specs.Schemas.{type_definition}
use Rattle.graphql_documents.specs.declared.documents.schemas.ExtendedType.TheVariants.{Object}
use Rattle.graphql_documents.specs.declared.documents.schemas.ExtendedType.{ExtendedType}
use Rattle.graphql_documents.specs.declared.documents.schemas.Schema.{Schema}
use Rattle.graphql_documents.proofs.ImplementerLemmas.{Apart, apart_folded, stands_folded, stands_same}
use Rattle.graphql_documents.proofs.ListLemmas.{all_pass, each_standing, kept_by_filter, kept_by_map, made_by, made_of, none_stands, only_one, stands_behind, stands_first, stands_flat, stands_mapped}
use Rattle.graphql_nodes.proofs.NameLemmas.{same_name_back, same_name_itself, same_name_then, same_text}
use Rattle.graphql_laws.proofs.VisitedNameLemmas.{either_true, visited_behind, visited_itself}

-- names, and the different ones among them
named_from : (b : Bool) (known : List NameText) (x n : NameText) → Contains (cond b known (known ++ x ∷ [])) n → Contains known n ⊎ (x ≡ n)
named_from true known x n in' = inl in'
named_from false known x n in' = Contains-push_cases known x n in'

folded_from : (known names : List NameText) (n : NameText) → Contains (fold with_name known names) n → Contains known n ⊎ Contains names n
folded_from known [] n in' = inl in'
folded_from known (x ∷ xs) n in' =
    elim (folded_from (with_name known x) xs n in') [
      | inl early ↦ elim (named_from (stands_on known x) known x n early) [
        | inl before ↦ inl before
        | inr here ↦ inr (subst (Contains (x ∷ xs)) here (stands_first x xs))
      ]
      | inr late ↦ inr (stands_behind x xs n late)
    ]

-- the different names of a list are among them
different_from : (names : List NameText) (n : NameText) → Contains (different_names names) n → Contains names n
different_from names n in' = elim (folded_from [] names n in') [ inl none ↦ absurd (none_stands n none) | inr there ↦ there ]

some_same : (names : List NameText) (n : NameText) → stands_on names n ≡ true → (m : NameText) × Contains names m × SameName n m
some_same [] n h = absurd (let no : ⊥ = cc in no)
some_same (x ∷ xs) n h =
    elim (either_true (same_name n x) (stands_on xs n) h) [
      | inl here ↦ (x, stands_first x xs, here)
      | inr late ↦ let r = some_same xs n late in (r.0, stands_behind x xs r.0 r.1, r.2)
    ]

all_stand : (names : List NameText) → All (λ n. stands_on names n ≡ true) names
all_stand [] = All-nil (λ n. stands_on [] n ≡ true)
all_stand (x ∷ xs) =
    let P = λ (n : NameText). stands_on (x ∷ xs) n ≡ true in
    All-cons P x xs (visited_itself x xs) (All-weaker (λ n. stands_on xs n ≡ true) P (λ n. visited_behind x xs n) xs (all_stand xs))

-- one of the different names is the same as a name of the list
same_in_different : (names : List NameText) (n : NameText) → Contains names n → (m : NameText) × Contains (different_names names) m × SameName n m
same_in_different names n in' =
    some_same (different_names names) n (stands_folded [] names n ∙ All-contains (λ n. stands_on names n ≡ true) names n (all_stand names) in')

-- what a flat map made is made of something
made_flat : {X Y : Type 0} (f : X → List Y) (xs : List X) (y : Y) → Contains (flat_map f xs) y → (x : X) × Contains xs x × Contains (f x) y
made_flat f [] y in' = absurd (none_stands y in')
made_flat f (x ∷ xs) y in' =
    elim (Contains-append_cases (f x) (flat_map f xs) y in') [
      | inl here ↦ (x, stands_first x xs, here)
      | inr late ↦ let r = made_flat f xs y late in (r.0, stands_behind x xs r.0 r.1, r.2)
    ]

-- names of one text give the same fields
under_alike : (a b : NameText) → SameName a b → (fields : List FieldSelection) → under_key a fields ≡ under_key b fields
under_alike a b same fields = ap (λ (t : List ℕ). filter (λ x. bytes_eq (key_of x).text t) fields) (same_text a b same)

named_alike : (a b : NameText) → SameName a b → (t : Option ExtendedType) → is_object_named a t ≡ is_object_named b t
named_alike a b same (Some (Object d)) = ap (bytes_eq d.value.value.name.text) (same_text a b same)
named_alike a b same _ = refl

on_object_alike : (schema : Schema) (fields : List FieldSelection) (a b : NameText) → SameName a b → on_object schema fields a ≡ on_object schema fields b
on_object_alike schema fields a b same =
    ap (λ l. l ++ with_parents schema is_abstract fields)
    (filter_agree (λ x. is_object_named a (type_definition schema x.parent)) (λ x. is_object_named b (type_definition schema x.parent))
    (λ x. named_alike a b same (type_definition schema x.parent)) fields)

-- object types, by their own names
named_itself : (t : Option ExtendedType) (n : NameText) → object_name t ≡ Some n → IsTrue (is_object_named n t)
named_itself (Some (Object d)) n e =
    let own : d.value.value.name ≡ n = cc in
    subst (SameName d.value.value.name) own (same_name_itself d.value.value.name)
named_itself _ n e = absurd (let no : ⊥ = cc in no)

own_of_named : (t : Option ExtendedType) (name : NameText) → IsTrue (is_object_named name t) → (own : NameText) × (object_name t ≡ Some own) × SameName own name
own_of_named (Some (Object d)) name h = (d.value.value.name, refl, h)
own_of_named _ name h = absurd (let no : ⊥ = cc in no)

own_of_object : (t : Option ExtendedType) → IsTrue (is_object t) → (own : NameText) × (object_name t ≡ Some own)
own_of_object (Some (Object d)) h = (d.value.value.name, refl)
own_of_object _ h = absurd (let no : ⊥ = cc in no)

object_of_own : (t : Option ExtendedType) (own : NameText) → object_name t ≡ Some own → IsTrue (is_object t)
object_of_own (Some (Object d)) own e = refl
object_of_own _ own e = absurd (let no : ⊥ = cc in no)

-- what passes a filter was in the list
stood : {X : Type 0} (test : X → Bool) (xs : List X) (x : X) → Contains (filter test xs) x → Contains xs x × (test x ≡ true)
stood test xs x in' = (
  All-contains (Contains xs) (filter test xs) x (All-filter test (Contains xs) xs (All-contains_itself xs)) in',
  All-contains (λ y. test y ≡ true) (filter test xs) x (filter_passes test xs) in',
)

-- a list that holds something is listed
listed_alone : (group : List FieldSelection) (x : FieldSelection) → Contains group x → Contains (unless_empty group) group
listed_alone [] x in' = absurd (none_stands x in')
listed_alone (y ∷ ys) x in' = stands_first (y ∷ ys) []

-- what is listed is the list, and something is in it
alone_listed : (list group : List FieldSelection) → Contains (unless_empty list) group → (list ≡ group) × (x : FieldSelection) × Contains list x
alone_listed [] group in' = absurd (none_stands group in')
alone_listed (y ∷ ys) group in' = (sym (only_one (y ∷ ys) group in'), y, stands_first y ys)

nothing_stands : {X : Type 0} (xs : List X) → ((x : X) → ¬ Contains xs x) → xs ≡ []
nothing_stands [] none = refl
nothing_stands (x ∷ xs) none = absurd (none x (stands_first x xs))

module _ (schema : Schema) where
  abbrev type_at : FieldSelection → Option ExtendedType
  type_at x = type_definition schema x.parent

  -- the fields under one key
  module _ (under : List FieldSelection) where
    abbrev owns : List NameText
    owns = filter_map (λ x. object_name (type_at x)) under

    on_listed : (n : NameText) (names : List NameText) → Contains names n → Contains (groups_on schema under names) (on_object schema under n)
    on_listed n [] in' = absurd (none_stands n in')
    on_listed n (m ∷ ms) in' = stands_mapped (on_object schema under) (m ∷ ms) n in'

    -- the group of an object type is there where a field is on that type
    group_on_object : (x : FieldSelection) (name : NameText) → Contains under x → IsTrue (is_object_named name (type_at x)) →
        Contains (groups_on schema under (objects_of schema under)) (on_object schema under name)
    group_on_object x name in' named =
        let own = own_of_named (type_at x) name named in
        let listed = same_in_different owns own.0 (kept_by_map (λ x. object_name (type_at x)) under x own.0 in' own.1) in
        subst (Contains (groups_on schema under (objects_of schema under)))
        (on_object_alike schema under listed.0 name (same_name_then listed.0 own.0 name (same_name_back own.0 listed.0 listed.2) own.2))
        (on_listed listed.0 (objects_of schema under) listed.1)

    -- the group of those on abstract types is there where no field is on an object type
    group_on_none : (x : FieldSelection) → Contains under x → IsTrue (is_abstract (type_at x)) → with_parents schema is_object under ≡ [] →
        Contains (groups_on schema under (objects_of schema under)) (with_parents schema is_abstract under)
    group_on_none x in' abstract_ none =
        let no_own : owns ≡ [] = nothing_stands owns (λ own in''.
        let from = made_by (λ x. object_name (type_at x)) under own in'' in
        let object = kept_by_filter (λ x. is_object (type_at x)) under from.0 from.1 (object_of_own (type_at from.0) own from.2) in
        none_stands from.0 (subst (λ l. Contains l from.0) none object)) in
        subst (λ names. Contains (groups_on schema under (different_names names)) (with_parents schema is_abstract under)) (sym no_own)
        (listed_alone (with_parents schema is_abstract under) x (kept_by_filter (λ x. is_abstract (type_at x)) under x in' abstract_))

    -- a group under a key is that of an object type, or of those on abstract types
    abbrev GroupUnder : List FieldSelection → Type 0
    GroupUnder group =
        ((x : FieldSelection) × (name : NameText) × Contains under x × IsTrue (is_object_named name (type_at x)) × (on_object schema under name ≡ group)) ⊎
        ((x : FieldSelection) × Contains under x × IsTrue (is_abstract (type_at x)) × (with_parents schema is_object under ≡ []) ×
        (with_parents schema is_abstract under ≡ group))

    no_objects : different_names owns ≡ [] → with_parents schema is_object under ≡ []
    no_objects none = nothing_stands (with_parents schema is_object under) (λ x in'.
        let there = stood (λ x. is_object (type_at x)) under x in' in
        let own = own_of_object (type_at x) there.1 in
        let listed = same_in_different owns own.0 (kept_by_map (λ x. object_name (type_at x)) under x own.0 there.0 own.1) in
        none_stands listed.0 (subst (λ l. Contains l listed.0) none listed.1))

    group_under : (names : List NameText) → objects_of schema under ≡ names → (group : List FieldSelection) →
        Contains (groups_on schema under names) group → GroupUnder group
    group_under [] are group in' =
        let alone = alone_listed (with_parents schema is_abstract under) group in' in
        let there = stood (λ x. is_abstract (type_at x)) under alone.1 alone.2 in
        inr (alone.1, there.0, there.1, no_objects are, alone.0)
    group_under (m ∷ ms) are group in' =
        let made = made_of (on_object schema under) (m ∷ ms) group in' in
        let from = made_by (λ x. object_name (type_at x)) under made.0 (different_from owns made.0 (subst (λ l. Contains l made.0) (sym are) made.1)) in
        inl (from.0, made.0, from.1, named_itself (type_at from.0) made.0 from.2, made.2)

  module _ (fields : List FieldSelection) where
    -- the keys of the list are those of its fields
    field_of_key : (key : NameText) → Contains (keys_of fields) key → (x : FieldSelection) × Contains fields x × (key_of x ≡ key)
    field_of_key key in' = made_of key_of fields key (different_from (map key_of fields) key in')

    key_in_list : (x : FieldSelection) → Contains fields x →
        (key : NameText) × Contains (keys_of fields) key × (under_key key fields ≡ with_key_of x fields)
    key_in_list x in' =
        let same = same_in_different (map key_of fields) (key_of x) (stands_mapped key_of fields x in') in
        (same.0, same.1, under_alike same.0 (key_of x) (same_name_back (key_of x) same.0 same.2) fields)

    abbrev on_key : NameText → List (List FieldSelection)
    on_key key = groups_on schema (under_key key fields) (objects_of schema (under_key key fields))

    in_groups : {pass : Pass} {group : List FieldSelection} → IsGroup schema fields pass group → Contains (groups_of schema pass fields) group
    in_groups (group_by_key {x = x} there) =
        let key = key_in_list x there in
        subst (Contains (groups_of schema shape_pass fields)) key.2 (stands_mapped (λ key. under_key key fields) (keys_of fields) key.0 key.1)
    in_groups (group_by_object {x = x} name there named) =
        let key = key_in_list x there in
        let under = with_key_of x fields in
        let here = kept_by_filter (λ y. same_name (key_of y) (key_of x)) fields x there (same_name_itself (key_of x)) in
        stands_flat on_key (keys_of fields) key.0 (on_object schema under name) key.1
        (subst (λ l. Contains (groups_on schema l (objects_of schema l)) (on_object schema under name)) (sym key.2) (group_on_object under x name here named))
    in_groups (group_of_abstract {x = x} there on_abstract none) =
        let key = key_in_list x there in
        let under = with_key_of x fields in
        let here = kept_by_filter (λ y. same_name (key_of y) (key_of x)) fields x there (same_name_itself (key_of x)) in
        stands_flat on_key (keys_of fields) key.0 (with_parents schema is_abstract under) key.1
        (subst (λ l. Contains (groups_on schema l (objects_of schema l)) (with_parents schema is_abstract under)) (sym key.2) (group_on_none under x here on_abstract none))

    by_key : (group : List FieldSelection) → Contains (groups_of schema shape_pass fields) group → IsGroup schema fields shape_pass group
    by_key group in' =
        let made = made_of (λ key. under_key key fields) (keys_of fields) group in' in
        let first = field_of_key made.0 made.1 in
        subst (IsGroup schema fields shape_pass) (ap (λ key. under_key key fields) first.2 ∙ made.2) (group_by_key first.1)

    -- a field under the key of another, with its own key
    under_own : (x y : FieldSelection) → Contains (with_key_of x fields) y → Contains fields y × (with_key_of y fields ≡ with_key_of x fields)
    under_own x y in' =
        let there = stood (λ y. same_name (key_of y) (key_of x)) fields y in' in
        (there.0, under_alike (key_of y) (key_of x) there.1 fields)

    under_types : (x : FieldSelection) (group : List FieldSelection) → GroupUnder (with_key_of x fields) group → IsGroup schema fields field_pass group
    under_types x group (inl (y, name, in', named, is)) =
        let own = under_own x y in' in
        subst (IsGroup schema fields field_pass) (ap (λ l. on_object schema l name) own.1 ∙ is) (group_by_object name own.0 named)
    under_types x group (inr (y, in', on_abstract, none, is)) =
        let own = under_own x y in' in
        subst (IsGroup schema fields field_pass) (ap (with_parents schema is_abstract) own.1 ∙ is)
        (group_of_abstract own.0 on_abstract (ap (with_parents schema is_object) own.1 ∙ none))

    by_types : (group : List FieldSelection) → Contains (groups_of schema field_pass fields) group → IsGroup schema fields field_pass group
    by_types group in' =
        let made = made_flat on_key (keys_of fields) group in' in
        let first = field_of_key made.0 made.1 in
        let here : Contains (on_key (key_of first.0)) group = subst (λ key. Contains (on_key key) group) (sym first.2) made.2 in
        under_types first.0 group
        (group_under (with_key_of first.0 fields) (objects_of schema (with_key_of first.0 fields)) refl group here)

    from_groups : (pass : Pass) (group : List FieldSelection) → Contains (groups_of schema pass fields) group → IsGroup schema fields pass group
    from_groups shape_pass = by_key
    from_groups field_pass = by_types

    pub groups_listed : (pass : Pass) (group : List FieldSelection) → Contains (groups_of schema pass fields) group ↔ IsGroup schema fields pass group
    groups_listed pass group = (from_groups pass group, in_groups)

-- under names apart, each field stands at most once
split_first : (n : NameText) (ns : List NameText) → stands_on ns n ≡ false → (fields : List FieldSelection) →
    length (filter (λ x. stands_on (n ∷ ns) (key_of x)) fields) ≡ length (under_key n fields) + length (filter (λ x. stands_on ns (key_of x)) fields)
split_first n ns apart [] = refl
split_first n ns apart (x ∷ xs) = by (same_name (key_of x) n) refl (stands_on ns (key_of x)) refl (split_first n ns apart xs) where
  by : (b : Bool) → same_name (key_of x) n ≡ b → (c : Bool) → stands_on ns (key_of x) ≡ c →
      length (filter (λ x. stands_on (n ∷ ns) (key_of x)) xs) ≡ length (under_key n xs) + length (filter (λ x. stands_on ns (key_of x)) xs) →
      length (filter (λ x. stands_on (n ∷ ns) (key_of x)) (x ∷ xs)) ≡ length (under_key n (x ∷ xs)) + length (filter (λ x. stands_on ns (key_of x)) (x ∷ xs))
  by true same true there behind = absurd (let alike = stands_same ns (key_of x) n same in let no : ⊥ = cc in no)
  by true same false away behind = rw (same, away) (omega arith)
  by false other true there behind = rw (other, there) (omega arith)
  by false other false away behind = rw (other, away) behind

counted_under : (fields : List FieldSelection) (names : List NameText) → Apart names →
    sum_by length (map (λ key. under_key key fields) names) ≡ length (filter (λ x. stands_on names (key_of x)) fields)
counted_under fields [] apart = sym (ap length (none_kept fields)) where
  none_kept : (fields : List FieldSelection) → filter (λ x. stands_on [] (key_of x)) fields ≡ []
  none_kept [] = refl
  none_kept (x ∷ xs) = none_kept xs
counted_under fields (n ∷ ns) apart =
    let here = sum_by-cons length (under_key n fields) (map (λ key. under_key key fields) ns) in
    let behind = counted_under fields ns apart.1 in
    let first = split_first n ns apart.0 fields in
    omega arith

-- each field is in one group of the shape pass
pub lengths_of_groups : (schema : Schema) (fields : List FieldSelection) → sum_by length (groups_of schema shape_pass fields) ≡ length fields
lengths_of_groups schema fields =
    counted_under fields (keys_of fields) (apart_folded [] (map key_of fields) tt) ∙
    ap length (all_pass (λ x. stands_on (keys_of fields) (key_of x)) fields (each_standing (λ x. stands_on (keys_of fields) (key_of x) ≡ true) fields (λ x in'.
    stands_folded [] (map key_of fields) (key_of x) ∙
    All-contains (λ n. stands_on (map key_of fields) n ≡ true) (map key_of fields) (key_of x) (all_stand (map key_of fields)) (stands_mapped key_of fields x in'))))

but_first : {X : Type 0} (groups : List (List X)) → All (λ g. 1 ≤ length g) groups → sum_by (λ g. length g - 1) groups + length groups ≡ sum_by length groups
but_first [] all = refl
but_first {X} (g ∷ gs) all =
    let here : 1 ≤ length g = All-head (λ (g : List X). 1 ≤ length g) g gs all in
    let behind = but_first gs (All-tail (λ (g : List X). 1 ≤ length g) g gs all) in
    let a = sum_by-cons (λ (g : List X). length g - 1) g gs in
    let b = sum_by-cons (λ (g : List X). length g) g gs in
    omega arith

-- each group has a first field
group_has_first : (schema : Schema) (fields group : List FieldSelection) → Contains (groups_of schema shape_pass fields) group → 1 ≤ length group
group_has_first schema fields group in' =
    let made = made_of (λ key. under_key key fields) (keys_of fields) group in' in
    let first = field_of_key schema fields made.0 made.1 in
    let under = kept_by_filter (λ y. same_name (key_of y) (key_of first.0)) fields first.0 first.1 (same_name_itself (key_of first.0)) in
    let here : Contains group first.0 = subst (λ l. Contains l first.0) (ap (λ key. under_key key fields) first.2 ∙ made.2) under in
    omega (arith, here.1)

-- each field but the first of its group is compared once
pub comparisons_of_groups : (schema : Schema) (fields : List FieldSelection) →
    sum_by (λ g. length g - 1) (groups_of schema shape_pass fields) ≡ comparisons_of fields
comparisons_of_groups schema fields =
    let groups = groups_of schema shape_pass fields in
    let but = but_first groups (each_standing (λ g. 1 ≤ length g) groups (group_has_first schema fields)) in
    let all = lengths_of_groups schema fields in
    let number = length-map (keys_of fields) (λ key. under_key key fields) in
    omega arith
