-- Which fields of a list are put together.
use Rattle.std.proofs.Common.{◌≡◌, ◌↔◌, Bool, true, List, [], ◌∷◌, ◌++◌, Option, Some, None, ◌⊎◌, inl, inr, refl, sym, subst, Contains}
use Rattle.std.specs.Prelude.{IsTrue, filter}
use Rattle.std.proofs.lemmas.List.Elements.{All-contains, All-filter, All-contains_itself, filter_passes, Contains-append_left, Contains-append_right, Contains-append_cases}
use Rattle.graphql_nodes.specs.Names.{NameText, SameName, same_name}
use Rattle.graphql_documents.specs.Schemas.{type_definition, is_composite}
use Rattle.graphql_documents.specs.Selections.{response_key}
use Rattle.graphql_specification.specs.Merging.{FieldSelection, MayOverlap, ParentsMayOverlap, SameKey, shape_pass, field_pass, Pass}
use Rattle.graphql_specification.specs.MergedSets.{with_key_of, is_abstract, is_object_named, is_object, with_parents, IsGroup, group_by_key, group_by_object, group_of_abstract}
use Rattle.graphql_nodes.specs.declared.nodes.Node.{Node}
use Rattle.graphql_documents.specs.declared.documents.schemas.ObjectType.{ObjectType}
use Rattle.graphql_documents.specs.declared.documents.schemas.Schema.{Schema}
use Rattle.graphql_documents.specs.declared.documents.schemas.ExtendedType.{ExtendedType}
use Rattle.graphql_documents.specs.declared.documents.schemas.ExtendedType.TheVariants.{Object, Interface, Union}
use Rattle.graphql_nodes.proofs.NameLemmas.{same_name_itself, same_name_back, same_name_then}
use Rattle.graphql_documents.proofs.ListLemmas.{stands_first, kept_by_filter}

-- what a filter kept was in the list and passed
kept : {X : Type 0} (test : X → Bool) (xs : List X) (x : X) → Contains (filter test xs) x → Contains xs x × (test x ≡ true)
kept test xs x in' = (
  All-contains (Contains xs) (filter test xs) x (All-filter test (Contains xs) xs (All-contains_itself xs)) in',
  All-contains (λ y. test y ≡ true) (filter test xs) x (filter_passes test xs) in',
)

same_key_back : (x y : FieldSelection) → SameKey x y → SameKey y x
same_key_back x y h = same_name_back (response_key x.field.value.value) (response_key y.field.value.value) h

same_key_then : (x y z : FieldSelection) → SameKey x y → SameKey y z → SameKey x z
same_key_then x y z a b = same_name_then (response_key x.field.value.value) (response_key y.field.value.value) (response_key z.field.value.value) a b

-- the fields with the key of z
has_key : (fields : List FieldSelection) (z x : FieldSelection) → Contains (with_key_of z fields) x → Contains fields x × SameKey x z
has_key fields z x in' = kept (λ y. same_name (response_key y.field.value.value) (response_key z.field.value.value)) fields x in'

under_key : (fields : List FieldSelection) (z x : FieldSelection) → Contains fields x → SameKey x z → Contains (with_key_of z fields) x
under_key fields z x in' key = kept_by_filter (λ y. same_name (response_key y.field.value.value) (response_key z.field.value.value)) fields x in' key

itself_under_key : (fields : List FieldSelection) (x : FieldSelection) → Contains fields x → Contains (with_key_of x fields) x
itself_under_key fields x in' = under_key fields x x in' (same_name_itself (response_key x.field.value.value))

two_with_key : (fields : List FieldSelection) (z x y : FieldSelection) → Contains (with_key_of z fields) x → Contains (with_key_of z fields) y →
    Contains fields x × Contains fields y × SameKey x y
two_with_key fields z x y in_x in_y =
    let a = has_key fields z x in_x in
    let b = has_key fields z y in_y in
    (a.0, b.0, same_key_then x z y a.1 (same_key_back y z b.1))

module _ (schema : Schema) (fields : List FieldSelection) where
  of_group : {pass : Pass} {group : List FieldSelection} → IsGroup schema fields pass group → pass ≡ shape_pass → (x y : FieldSelection) →
      Contains group x → Contains group y → Contains fields x × Contains fields y × SameKey x y
  of_group (group_by_key {x = z} there) is x y in_x in_y = two_with_key fields z x y in_x in_y
  of_group (group_by_object name there object) is x y in_x in_y = absurd (let no : ⊥ = cc in no)
  of_group (group_of_abstract there is_abstract none) is x y in_x in_y = absurd (let no : ⊥ = cc in no)

  pub shape_groups : (x y : FieldSelection) →
      ((group : List FieldSelection) × IsGroup schema fields shape_pass group × Contains group x × Contains group y) ↔ (Contains fields x × Contains fields y × SameKey x y)
  shape_groups x y = (
    λ g. of_group g.1 refl x y g.2 g.3,
    λ both. (with_key_of x fields, group_by_key both.0, itself_under_key fields x both.0, under_key fields x y both.1 (same_key_back x y both.2)),
  )

-- the types of the parents
is_named : (name : NameText) (t : Option ExtendedType) → IsTrue (is_object_named name t) → (d : Node ObjectType) × (t ≡ Some (Object d)) × SameName d.value.value.name name
is_named name (Some (Object d)) h = (d, refl, h)
is_named name _ h = absurd (let no : ⊥ = cc in no)

any_object : (t : Option ExtendedType) → IsTrue (is_object t) → (d : Node ObjectType) × (t ≡ Some (Object d))
any_object (Some (Object d)) h = (d, refl)
any_object _ h = absurd (let no : ⊥ = cc in no)

abbrev IsAbstractType : ExtendedType → Type 0
IsAbstractType t = IsTrue (is_abstract (Some t))

any_abstract : (t : Option ExtendedType) → IsTrue (is_abstract t) → (d : ExtendedType) × (t ≡ Some d) × IsAbstractType d
any_abstract (Some d) h = (d, refl, h)
any_abstract None h = absurd (let no : ⊥ = cc in no)

-- abstract types overlap each other and each object type
abstract_is_composite : (t : ExtendedType) → IsAbstractType t → IsTrue (is_composite t)
abstract_is_composite (Interface d) h = refl
abstract_is_composite (Union d) h = refl
abstract_is_composite _ h = absurd (let no : ⊥ = cc in no)

overlaps_object : (a : ExtendedType) (d : Node ObjectType) → IsAbstractType a → MayOverlap a (Object d) × MayOverlap (Object d) a
overlaps_object (Interface i) d h = ((refl, refl), (refl, refl))
overlaps_object (Union u) d h = ((refl, refl), (refl, refl))
overlaps_object _ d h = absurd (let no : ⊥ = cc in no)

overlap_abstract : (a b : ExtendedType) → IsAbstractType a → IsAbstractType b → MayOverlap a b
overlap_abstract (Interface i) b h k = (refl, abstract_is_composite b k)
overlap_abstract (Union u) b h k = (refl, abstract_is_composite b k)
overlap_abstract _ b h k = absurd (let no : ⊥ = cc in no)

-- how two types may overlap
data Overlapping : ExtendedType → ExtendedType → Type 0 where
  one_object : (a b : Node ObjectType) → SameName a.value.value.name b.value.value.name → Overlapping (Object a) (Object b)
  object_first : (a : Node ObjectType) (b : ExtendedType) → IsAbstractType b → Overlapping (Object a) b
  object_second : (a : ExtendedType) (b : Node ObjectType) → IsAbstractType a → Overlapping a (Object b)
  no_object : (a b : ExtendedType) → IsAbstractType a → IsAbstractType b → Overlapping a b

how_overlapping : (a b : ExtendedType) → MayOverlap a b → Overlapping a b
how_overlapping (Object a) (Object b) h = one_object a b h
how_overlapping (Object a) (Interface b) h = object_first a (Interface b) refl
how_overlapping (Object a) (Union b) h = object_first a (Union b) refl
how_overlapping (Interface a) (Object b) h = object_second (Interface a) b refl
how_overlapping (Interface a) (Interface b) h = no_object (Interface a) (Interface b) refl refl
how_overlapping (Interface a) (Union b) h = no_object (Interface a) (Union b) refl refl
how_overlapping (Union a) (Object b) h = object_second (Union a) b refl
how_overlapping (Union a) (Interface b) h = no_object (Union a) (Interface b) refl refl
how_overlapping (Union a) (Union b) h = no_object (Union a) (Union b) refl refl
how_overlapping _ _ h = absurd (let no : ⊥ = cc in no)

module _ (schema : Schema) where
  -- the parents of two fields overlap by these types
  overlapping : (x y : FieldSelection) (a b : ExtendedType) → type_definition schema x.parent ≡ Some a → type_definition schema y.parent ≡ Some b →
      MayOverlap a b → ParentsMayOverlap schema x y
  overlapping x y a b first second overlap = record { first = a; second = b; first_is = first; second_is = second; overlap = overlap }

  -- a field of a group of an object type is on that type or on an abstract one
  abbrev OnObjectOrAbstract : NameText → FieldSelection → Type 0
  OnObjectOrAbstract name x = IsTrue (is_object_named name (type_definition schema x.parent)) ⊎ IsTrue (is_abstract (type_definition schema x.parent))

  all_overlap : (name : NameText) (x y : FieldSelection) → OnObjectOrAbstract name x → OnObjectOrAbstract name y → ParentsMayOverlap schema x y
  all_overlap name x y (inl a) (inl b) =
      let p = is_named name (type_definition schema x.parent) a in
      let q = is_named name (type_definition schema y.parent) b in
      overlapping x y (Object p.0) (Object q.0) p.1 q.1
      (same_name_then p.0.value.value.name name q.0.value.value.name p.2 (same_name_back q.0.value.value.name name q.2))
  all_overlap name x y (inl a) (inr b) =
      let p = is_named name (type_definition schema x.parent) a in
      let q = any_abstract (type_definition schema y.parent) b in
      overlapping x y (Object p.0) q.0 p.1 q.1 (overlaps_object q.0 p.0 q.2).1
  all_overlap name x y (inr a) (inl b) =
      let p = any_abstract (type_definition schema x.parent) a in
      let q = is_named name (type_definition schema y.parent) b in
      overlapping x y p.0 (Object q.0) p.1 q.1 (overlaps_object p.0 q.0 p.2).0
  all_overlap name x y (inr a) (inr b) =
      let p = any_abstract (type_definition schema x.parent) a in
      let q = any_abstract (type_definition schema y.parent) b in
      overlapping x y p.0 q.0 p.1 q.1 (overlap_abstract p.0 q.0 p.2 q.2)

  module _ (fields : List FieldSelection) where
    -- the group of an object type under the key of z
    abbrev object_group : FieldSelection → NameText → List FieldSelection
    object_group z name =
        with_parents schema (is_object_named name) (with_key_of z fields) ++ with_parents schema is_abstract (with_key_of z fields)

    in_object_group : (z : FieldSelection) (name : NameText) (x : FieldSelection) → Contains (object_group z name) x →
        Contains (with_key_of z fields) x × OnObjectOrAbstract name x
    in_object_group z name x in' =
        elim (Contains-append_cases (with_parents schema (is_object_named name) (with_key_of z fields)) (with_parents schema is_abstract (with_key_of z fields)) x in') [
          | inl object ↦ let k = kept (λ y. is_object_named name (type_definition schema y.parent)) (with_key_of z fields) x object in (k.0, inl k.1)
          | inr other ↦ let k = kept (λ y. is_abstract (type_definition schema y.parent)) (with_key_of z fields) x other in (k.0, inr k.1)
        ]

    into_object_group : (z : FieldSelection) (name : NameText) (x : FieldSelection) → Contains (with_key_of z fields) x → OnObjectOrAbstract name x →
        Contains (object_group z name) x
    into_object_group z name x in' (inl object) =
        Contains-append_left (with_parents schema (is_object_named name) (with_key_of z fields)) (with_parents schema is_abstract (with_key_of z fields)) x
        (kept_by_filter (λ y. is_object_named name (type_definition schema y.parent)) (with_key_of z fields) x in' object)
    into_object_group z name x in' (inr other) =
        Contains-append_right (with_parents schema (is_object_named name) (with_key_of z fields)) (with_parents schema is_abstract (with_key_of z fields)) x
        (kept_by_filter (λ y. is_abstract (type_definition schema y.parent)) (with_key_of z fields) x in' other)

    together : {pass : Pass} {group : List FieldSelection} → IsGroup schema fields pass group → pass ≡ field_pass → (x y : FieldSelection) →
        Contains group x → Contains group y → Contains fields x × Contains fields y × SameKey x y × ParentsMayOverlap schema x y
    together (group_by_key there) is x y in_x in_y = absurd (let no : ⊥ = cc in no)
    together (group_by_object {x = z} name there object) is x y in_x in_y =
        let a = in_object_group z name x in_x in
        let b = in_object_group z name y in_y in
        let both = two_with_key fields z x y a.0 b.0 in
        (both.0, both.1, both.2, all_overlap name x y a.1 b.1)
    together (group_of_abstract {x = z} there on_abstract none) is x y in_x in_y =
        let a = kept (λ v. is_abstract (type_definition schema v.parent)) (with_key_of z fields) x in_x in
        let b = kept (λ v. is_abstract (type_definition schema v.parent)) (with_key_of z fields) y in_y in
        let both = two_with_key fields z x y a.0 b.0 in
        (both.0, both.1, both.2, all_overlap z.parent x y (inr a.1) (inr b.1))

    -- a group with both
    GroupOfBoth : FieldSelection → FieldSelection → Type 0
    GroupOfBoth x y = (group : List FieldSelection) × IsGroup schema fields field_pass group × Contains group x × Contains group y

    with_object : (z : FieldSelection) (d : Node ObjectType) → Contains fields z → type_definition schema z.parent ≡ Some (Object d) → (x y : FieldSelection) →
        Contains fields x → SameKey x z → OnObjectOrAbstract d.value.value.name x → Contains fields y → SameKey y z → OnObjectOrAbstract d.value.value.name y → GroupOfBoth x y
    unfolding GroupOfBoth
    with_object z d there is x y in_x key_x on_x in_y key_y on_y =
        let name = d.value.value.name in
        let object : IsTrue (is_object_named name (type_definition schema z.parent)) = rw is (same_name_itself name) in (
          object_group z name,
          group_by_object name there object,
          into_object_group z name x (under_key fields z x in_x key_x) on_x,
          into_object_group z name y (under_key fields z y in_y key_y) on_y,
        )

    without_object : (objects : List FieldSelection) (x y : FieldSelection) → with_parents schema is_object (with_key_of x fields) ≡ objects →
        Contains fields x → Contains fields y → SameKey x y →
        IsTrue (is_abstract (type_definition schema x.parent)) → IsTrue (is_abstract (type_definition schema y.parent)) → GroupOfBoth x y
    unfolding GroupOfBoth
    without_object [] x y none in_x in_y key on_x on_y = (
      with_parents schema is_abstract (with_key_of x fields),
      group_of_abstract in_x on_x none,
      kept_by_filter (λ v. is_abstract (type_definition schema v.parent)) (with_key_of x fields) x (itself_under_key fields x in_x) on_x,
      kept_by_filter (λ v. is_abstract (type_definition schema v.parent)) (with_key_of x fields) y (under_key fields x y in_y (same_key_back x y key)) on_y,
    )
    without_object (z ∷ more) x y some in_x in_y key on_x on_y =
        let k = kept (λ v. is_object (type_definition schema v.parent)) (with_key_of x fields) z (subst (λ l. Contains l z) (sym some) (stands_first z more)) in
        let there = has_key fields x z k.0 in
        let d = any_object (type_definition schema z.parent) k.1 in
        with_object z d.0 there.0 d.1 x y in_x (same_key_back z x there.1) (inr on_x)
        in_y (same_key_then y x z (same_key_back x y key) (same_key_back z x there.1)) (inr on_y)

    by_types : (x y : FieldSelection) {a b : ExtendedType} → Overlapping a b → type_definition schema x.parent ≡ Some a → type_definition schema y.parent ≡ Some b →
        Contains fields x → Contains fields y → SameKey x y → GroupOfBoth x y
    by_types x y (one_object a b same) first second in_x in_y key =
        with_object x a in_x first x y in_x (same_name_itself (response_key x.field.value.value)) (inl (rw first (same_name_itself a.value.value.name)))
        in_y (same_key_back x y key) (inl (rw second (same_name_back a.value.value.name b.value.value.name same)))
    by_types x y (object_first a b other) first second in_x in_y key =
        with_object x a in_x first x y in_x (same_name_itself (response_key x.field.value.value)) (inl (rw first (same_name_itself a.value.value.name)))
        in_y (same_key_back x y key) (inr (rw second other))
    by_types x y (object_second a b other) first second in_x in_y key =
        with_object y b in_y second x y in_x key (inr (rw first other))
        in_y (same_name_itself (response_key y.field.value.value)) (inl (rw second (same_name_itself b.value.value.name)))
    by_types x y (no_object a b on_a on_b) first second in_x in_y key =
        without_object (with_parents schema is_object (with_key_of x fields)) x y refl in_x in_y key (rw first on_a) (rw second on_b)

    pub field_groups : (x y : FieldSelection) →
        ((group : List FieldSelection) × IsGroup schema fields field_pass group × Contains group x × Contains group y) ↔
        (Contains fields x × Contains fields y × SameKey x y × ParentsMayOverlap schema x y)
    unfolding GroupOfBoth
    field_groups x y = (
      λ g. together g.1 refl x y g.2 g.3,
      λ both. by_types x y (how_overlapping both.3.first both.3.second both.3.overlap) both.3.first_is both.3.second_is both.0 both.1 both.2,
    )

-- what is in a group is in its list
pub in_list : (schema : Schema) (fields : List FieldSelection) {pass : Pass} {group : List FieldSelection} → IsGroup schema fields pass group →
    (x : FieldSelection) → Contains group x → Contains fields x
in_list schema fields {pass = shape_pass} {group = group} is x in_x = ((shape_groups schema fields x x).0 (group, is, in_x, in_x)).0
in_list schema fields {pass = field_pass} {group = group} is x in_x = ((field_groups schema fields x x).0 (group, is, in_x, in_x)).0
