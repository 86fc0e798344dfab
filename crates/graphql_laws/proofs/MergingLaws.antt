-- When sets do not merge, and when the parents of two fields overlap.
use Rattle.std.proofs.Common.{◌≡◌, List, [], ◌∷◌, ◌++◌, Some, refl, subst, Contains, ◌⊎◌, inl, inr, sym}
use Rattle.std.specs.Prelude.{IsTrue}
use Rattle.std.specs.List.{AllZip}
use Rattle.std.proofs.lemmas.List.Elements.{All-nil, All-cons, All-same, All-contains}
use Rattle.graphql_nodes.specs.Names.{NameText, SameName, DifferentNames}
use Rattle.graphql_documents.specs.TypeReferences.{inner_named_type}
use Rattle.graphql_documents.specs.Schemas.{type_definition, is_output_type, is_composite}
use Rattle.graphql_documents.specs.Selections.{Fragments, selections_of, response_key, Includes, includes_itself, includes_spread, includes_inline_fragment}
use Rattle.graphql_specification.specs.Merging.{FieldSelection, FieldInExpandedSet, Chain, chain_of_one, chain_of_more, SameLeafOrBothComposite, SameResponseShape, ParentsMayOverlap, HaveSameResponsePath, OverlapThroughout, FieldsCanMerge, set_of, type_of, SameKey, SameNameAndArguments, MayOverlap}
use Rattle.graphql_nodes.specs.declared.nodes.Node.{Node}
use Rattle.graphql_documents.specs.declared.documents.type_references.Type.{«Type»}
use Rattle.graphql_documents.specs.declared.documents.type_references.Type.TheVariants.{Named, NonNullNamed, List', NonNullList'}
use Rattle.graphql_documents.specs.declared.documents.schemas.ObjectType.{ObjectType}
use Rattle.graphql_documents.specs.declared.documents.schemas.Schema.{Schema}
use Rattle.graphql_documents.specs.declared.documents.schemas.ExtendedType.{ExtendedType}
use Rattle.graphql_documents.specs.declared.documents.schemas.ExtendedType.TheVariants.{Scalar, Object, Interface, Union, Enum, InputObject}
use Rattle.graphql_documents.specs.declared.documents.executables.SelectionSet.{SelectionSet}
use Rattle.graphql_documents.specs.declared.documents.executables.Selection.{Selection}
use Rattle.graphql_documents.specs.declared.documents.executables.InlineFragment.{InlineFragment}
use Rattle.graphql_documents.specs.declared.documents.executables.Selection.TheVariants as kind
use Rattle.graphql_documents.specs.declared.documents.executables.Field.{Field}
use Rattle.graphql_documents.specs.declared.documents.executables.Fragment.{Fragment}
use Rattle.graphql_documents.specs.declared.documents.executables.FragmentSpread.{FragmentSpread}
use Rattle.graphql_nodes.proofs.NameLemmas.{same_name_itself, same_name_back, not_both, same_name_then}
use Rattle.graphql_documents.proofs.SelectionLemmas.{includes_then, not_inline, same_inline, spread_not_inline}
use Rattle.graphql_documents.proofs.ListLemmas.{none_stands}

-- a field that is in a set, with the set's type
abbrev in_set : SelectionSet → Node Field → FieldSelection
in_set set f = record { parent = set.ty; field = f }

stands_inside : (fragments : Fragments) (set : SelectionSet) (f : Node Field) → Contains (selections_of set) (kind.Field f) →
    FieldInExpandedSet fragments set (in_set set f)
stands_inside fragments set f stands = record { inner = set; included = includes_itself; stands = stands; parent_is = refl }

-- two fields that are in sets of one object type have parents that overlap
one_object : (schema : Schema) (object : Node ObjectType) (a b : FieldSelection) →
    type_definition schema a.parent ≡ Some (Object object) → type_definition schema b.parent ≡ Some (Object object) →
    ParentsMayOverlap schema a b
one_object schema object a b ea eb = record {
  first = Object object;
  second = Object object;
  first_is = ea;
  second_is = eb;
  overlap = same_name_itself object.value.value.name;
}

pub different_names_clash : (schema : Schema) (fragments : Fragments) (set : SelectionSet) (object : Node ObjectType) (a b : Node Field) →
    type_definition schema set.ty ≡ Some (Object object) →
    Contains (selections_of set) (kind.Field a) → Contains (selections_of set) (kind.Field b) →
    SameName (response_key a.value.value) (response_key b.value.value) → DifferentNames a.value.value.name b.value.value.name →
    ¬ FieldsCanMerge schema fragments set
different_names_clash schema fragments set object a b is in_a in_b key other merges =
    let x = in_set set a in
    let y = in_set set b in
    let together : HaveSameResponsePath fragments set [] [] x y = record {
      first = chain_of_one (stands_inside fragments set a in_a);
      second = chain_of_one (stands_inside fragments set b in_b);
      keys = (key, tt);
    } in
    not_both a.value.value.name b.value.value.name
    (merges.fields [] [] x y together (one_object schema object x y is is, tt)).name other

pub different_names_clash_below : (schema : Schema) (fragments : Fragments) (set : SelectionSet) (outer inner : Node ObjectType) (p q a b : Node Field) →
    type_definition schema set.ty ≡ Some (Object outer) →
    type_definition schema p.value.value.selection_set.ty ≡ Some (Object inner) →
    type_definition schema q.value.value.selection_set.ty ≡ Some (Object inner) →
    Contains (selections_of set) (kind.Field p) → Contains (selections_of set) (kind.Field q) →
    Contains (selections_of p.value.value.selection_set) (kind.Field a) → Contains (selections_of q.value.value.selection_set) (kind.Field b) →
    SameName (response_key p.value.value) (response_key q.value.value) →
    SameName (response_key a.value.value) (response_key b.value.value) → DifferentNames a.value.value.name b.value.value.name →
    ¬ FieldsCanMerge schema fragments set
different_names_clash_below schema fragments set outer inner p q a b is is_p is_q in_p in_q in_a in_b keys key other merges =
    let u = in_set set p in
    let v = in_set set q in
    let x = in_set p.value.value.selection_set a in
    let y = in_set q.value.value.selection_set b in
    let together : HaveSameResponsePath fragments set (u ∷ []) (v ∷ []) x y = record {
      first = chain_of_more (stands_inside fragments set p in_p) (chain_of_one (stands_inside fragments p.value.value.selection_set a in_a));
      second = chain_of_more (stands_inside fragments set q in_q) (chain_of_one (stands_inside fragments q.value.value.selection_set b in_b));
      keys = (keys, (key, tt));
    } in
    not_both a.value.value.name b.value.value.name
    (merges.fields (u ∷ []) (v ∷ []) x y together (one_object schema outer u v is is, (one_object schema inner x y is_p is_q, tt))).name other

-- what begins in an included set begins in the set
chain_from : (fragments : Fragments) {set inner : SelectionSet} {xs : List FieldSelection} →
    Includes fragments set inner → Chain fragments inner xs → Chain fragments set xs
chain_from fragments {set} {inner} included (chain_of_one {x = x} here) = chain_of_one (further here) where
  further : FieldInExpandedSet fragments inner x → FieldInExpandedSet fragments set x
  further here = record { inner = here.inner; included = includes_then fragments included here.included; stands = here.stands; parent_is = here.parent_is }
chain_from fragments {set} {inner} included (chain_of_more {x = x} here more) = chain_of_more (further here) more where
  further : FieldInExpandedSet fragments inner x → FieldInExpandedSet fragments set x
  further here = record { inner = here.inner; included = includes_then fragments included here.included; stands = here.stands; parent_is = here.parent_is }

pub included_merges : (schema : Schema) (fragments : Fragments) (set inner : SelectionSet) →
    Includes fragments set inner → FieldsCanMerge schema fragments set → FieldsCanMerge schema fragments inner
included_merges schema fragments set inner included merges = record {
  shapes = λ xs ys x y both. merges.shapes xs ys x y (from_outside xs ys x y both);
  fields = λ xs ys x y both. merges.fields xs ys x y (from_outside xs ys x y both);
} where
  from_outside : (xs ys : List FieldSelection) (x y : FieldSelection) → HaveSameResponsePath fragments inner xs ys x y → HaveSameResponsePath fragments set xs ys x y
  from_outside xs ys x y both = record {
    first = chain_from fragments included both.first;
    second = chain_from fragments included both.second;
    keys = both.keys;
  }

pub cyclic_fragment_clashes : (schema : Schema) (fragments : Fragments) (set : SelectionSet) (p q : Node FragmentSpread) (d : Node Fragment) (object : Node ObjectType) (a b : Node Field) →
    Contains (selections_of set) (kind.FragmentSpread p) → fragments p.value.value.fragment_name ≡ Some d →
    Contains (selections_of d.value.value.selection_set) (kind.FragmentSpread q) → fragments q.value.value.fragment_name ≡ Some d →
    type_definition schema d.value.value.selection_set.ty ≡ Some (Object object) →
    Contains (selections_of d.value.value.selection_set) (kind.Field a) → Contains (selections_of d.value.value.selection_set) (kind.Field b) →
    SameName (response_key a.value.value) (response_key b.value.value) → DifferentNames a.value.value.name b.value.value.name →
    ¬ FieldsCanMerge schema fragments set
cyclic_fragment_clashes schema fragments set p q d object a b spread is back back_is object_is in_a in_b key other merges =
    different_names_clash schema fragments d.value.value.selection_set object a b object_is in_a in_b key other
    (included_merges schema fragments set d.value.value.selection_set (includes_spread spread is includes_itself) merges)

-- two object types with different names do not overlap
apart : (schema : Schema) (x y : FieldSelection) (a b : Node ObjectType) →
    type_definition schema x.parent ≡ Some (Object a) → type_definition schema y.parent ≡ Some (Object b) →
    DifferentNames a.value.value.name b.value.value.name → ¬ ParentsMayOverlap schema x y
apart schema x y a b ea eb other overlaps =
    let first : overlaps.first ≡ Object a = cc in
    let second : overlaps.second ≡ Object b = cc in
    not_both a.value.value.name b.value.value.name (rw (first, second) at overlaps.overlap) other

-- what holds of the places of two lists holds of their ends
ends_hold : (R : FieldSelection → FieldSelection → Type 0) (xs ys : List FieldSelection) (x y : FieldSelection) →
    AllZip R (xs ++ x ∷ []) (ys ++ y ∷ []) → R x y
ends_hold R [] [] x y all = all.0
ends_hold R [] (v ∷ []) x y all = absurd all.1
ends_hold R [] (v ∷ (w ∷ ys)) x y all = absurd all.1
ends_hold R (u ∷ []) [] x y all = absurd all.1
ends_hold R (u ∷ (w ∷ xs)) [] x y all = absurd all.1
ends_hold R (u ∷ xs) (v ∷ ys) x y all = ends_hold R xs ys x y all.1

pub different_objects_are_apart : (schema : Schema) (xs ys : List FieldSelection) (x y : FieldSelection) (a b : Node ObjectType) →
    type_definition schema x.parent ≡ Some (Object a) → type_definition schema y.parent ≡ Some (Object b) →
    DifferentNames a.value.value.name b.value.value.name → ¬ OverlapThroughout schema xs ys x y
different_objects_are_apart schema xs ys x y a b ea eb other all =
    apart schema x y a b ea eb other (ends_hold (ParentsMayOverlap schema) xs ys x y all)

-- the form of values, either way round and of one type
composite_form : (x y : ExtendedType) → IsTrue (is_composite x) → IsTrue (is_composite y) → SameLeafOrBothComposite x y
composite_form (Object a) y hx hy = (hx, hy)
composite_form (Interface a) y hx hy = (hx, hy)
composite_form (Union a) y hx hy = (hx, hy)
composite_form _ y hx hy = absurd (let no : ⊥ = cc in no)

one_form_back : (x y : ExtendedType) → SameLeafOrBothComposite x y → SameLeafOrBothComposite y x
one_form_back (Scalar a) (Scalar b) h = same_name_back a.value.value.name b.value.value.name h
one_form_back (Enum a) (Enum b) h = same_name_back a.value.value.name b.value.value.name h
one_form_back (Object a) y h = composite_form y (Object a) h.1 h.0
one_form_back (Interface a) y h = composite_form y (Interface a) h.1 h.0
one_form_back (Union a) y h = composite_form y (Union a) h.1 h.0
one_form_back _ _ h = absurd (let no : ⊥ = cc in no)

one_form_itself : (x : ExtendedType) → IsTrue (is_output_type x) → SameLeafOrBothComposite x x
one_form_itself (Scalar a) h = same_name_itself a.value.value.name
one_form_itself (Enum a) h = same_name_itself a.value.value.name
one_form_itself (InputObject a) h = absurd (let no : ⊥ = cc in no)
one_form_itself _ h = (refl, refl)

pub same_shape_back : (schema : Schema) (a b : «Type») → SameResponseShape schema a b → SameResponseShape schema b a
same_shape_back schema (Named a) (Named b) h = λ x y ex ey. one_form_back y x (h y x ey ex)
same_shape_back schema (NonNullNamed a) (NonNullNamed b) h = λ x y ex ey. one_form_back y x (h y x ey ex)
same_shape_back schema (List' place a) (List' other b) h = same_shape_back schema a b h
same_shape_back schema (NonNullList' place a) (NonNullList' other b) h = same_shape_back schema a b h
same_shape_back schema _ _ h = absurd h

named_itself : (schema : Schema) (name : NameText) → ((d : ExtendedType) → type_definition schema name ≡ Some d → IsTrue (is_output_type d)) →
    (x y : ExtendedType) → type_definition schema name ≡ Some x → type_definition schema name ≡ Some y → SameLeafOrBothComposite x y
named_itself schema name output x y ex ey =
    let same : x ≡ y = cc in subst (SameLeafOrBothComposite x) same (one_form_itself x (output x ex))

pub same_shape_itself : (schema : Schema) (ty : «Type») →
    ((d : ExtendedType) → type_definition schema (inner_named_type ty) ≡ Some d → IsTrue (is_output_type d)) → SameResponseShape schema ty ty
same_shape_itself schema (Named a) output = named_itself schema a output
same_shape_itself schema (NonNullNamed a) output = named_itself schema a output
same_shape_itself schema (List' place a) output = same_shape_itself schema a output
same_shape_itself schema (NonNullList' place a) output = same_shape_itself schema a output

-- what has one form with a composite type is composite
composite_end : (x y : ExtendedType) → IsTrue (is_composite x) → SameLeafOrBothComposite x y → IsTrue (is_composite y)
composite_end (Object a) y hx h = h.1
composite_end (Interface a) y hx h = h.1
composite_end (Union a) y hx h = h.1
composite_end _ y hx h = absurd (let no : ⊥ = cc in no)

one_form_then : (x y z : ExtendedType) → SameLeafOrBothComposite x y → SameLeafOrBothComposite y z → SameLeafOrBothComposite x z
one_form_then (Scalar a) (Scalar b) (Scalar c) p q = same_name_then a.value.value.name b.value.value.name c.value.value.name p q
one_form_then (Enum a) (Enum b) (Enum c) p q = same_name_then a.value.value.name b.value.value.name c.value.value.name p q
one_form_then (Object a) y z p q = composite_form (Object a) z p.0 (composite_end y z p.1 q)
one_form_then (Interface a) y z p q = composite_form (Interface a) z p.0 (composite_end y z p.1 q)
one_form_then (Union a) y z p q = composite_form (Union a) z p.0 (composite_end y z p.1 q)
one_form_then _ _ _ p q = absurd (let no : ⊥ = cc in no)

pub same_shape_then : (schema : Schema) (a b c : «Type») (d : ExtendedType) → type_definition schema (inner_named_type b) ≡ Some d →
    SameResponseShape schema a b → SameResponseShape schema b c → SameResponseShape schema a c
same_shape_then schema (Named a) (Named b) (Named c) d is p q = λ x y ex ey. one_form_then x d y (p x d ex is) (q d y is ey)
same_shape_then schema (NonNullNamed a) (NonNullNamed b) (NonNullNamed c) d is p q = λ x y ex ey. one_form_then x d y (p x d ex is) (q d y is ey)
same_shape_then schema (List' place a) (List' other b) (List' third c) d is p q = same_shape_then schema a b c d is p q
same_shape_then schema (NonNullList' place a) (NonNullList' other b) (NonNullList' third c) d is p q = same_shape_then schema a b c d is p q
same_shape_then schema (Named a) (Named b) _ d is p q = absurd q
same_shape_then schema (NonNullNamed a) (NonNullNamed b) _ d is p q = absurd q
same_shape_then schema (List' place a) (List' other b) _ d is p q = absurd q
same_shape_then schema (NonNullList' place a) (NonNullList' other b) _ d is p q = absurd q
same_shape_then schema _ _ _ d is p q = absurd p

-- nothing is inside a set that has nothing
nothing_inside : (fragments : Fragments) {set inner : SelectionSet} (s : Selection) → Includes fragments set inner →
    selections_of set ≡ [] → ¬ Contains (selections_of inner) s
nothing_inside fragments s includes_itself empty stands = none_stands s (subst (λ l. Contains l s) empty stands)
nothing_inside fragments s (includes_inline_fragment {i = i} there more) empty stands =
    none_stands (kind.InlineFragment i) (subst (λ l. Contains l (kind.InlineFragment i)) empty there)
nothing_inside fragments s (includes_spread {p = p} there is more) empty stands =
    none_stands (kind.FragmentSpread p) (subst (λ l. Contains l (kind.FragmentSpread p)) empty there)

no_chain : (fragments : Fragments) {set : SelectionSet} {xs : List FieldSelection} → Chain fragments set xs → ¬ (selections_of set ≡ [])
no_chain fragments (chain_of_one {x = x} here) empty = nothing_inside fragments (kind.Field x.field) here.included empty here.stands
no_chain fragments (chain_of_more {x = x} here more) empty = nothing_inside fragments (kind.Field x.field) here.included empty here.stands

-- a chain in a set of leaf fields is one field
one_alone : {X : Type 0} (u x : X) (xs : List X) → u ∷ [] ≡ xs ++ x ∷ [] → (xs ≡ []) × (u ≡ x)
one_alone u x [] e = (refl, cc)
one_alone u x (v ∷ []) e = absurd (let no : ⊥ = cc in no)
one_alone u x (v ∷ (w ∷ xs)) e = absurd (let no : ⊥ = cc in no)

only_leaf : (fragments : Fragments) {set : SelectionSet} {us : List FieldSelection} → Chain fragments set us →
    ((x : FieldSelection) → FieldInExpandedSet fragments set x → selections_of (set_of x) ≡ []) →
    (xs : List FieldSelection) (x : FieldSelection) → us ≡ xs ++ x ∷ [] → (xs ≡ []) × FieldInExpandedSet fragments set x
only_leaf fragments {set} (chain_of_one {x = u} here) leaf xs x e =
    let alone = one_alone u x xs e in (alone.0, subst (FieldInExpandedSet fragments set) alone.1 here)
only_leaf fragments (chain_of_more {x = u} here more) leaf xs x e = absurd (no_chain fragments more (leaf u here))

pub leaf_fields_merge : (schema : Schema) (fragments : Fragments) (set : SelectionSet) →
    ((x : FieldSelection) → FieldInExpandedSet fragments set x → selections_of (set_of x) ≡ []) →
    ((x y : FieldSelection) → FieldInExpandedSet fragments set x → FieldInExpandedSet fragments set y → SameKey x y → SameResponseShape schema (type_of x) (type_of y)) →
    ((x y : FieldSelection) → FieldInExpandedSet fragments set x → FieldInExpandedSet fragments set y → SameKey x y → ParentsMayOverlap schema x y →
    SameNameAndArguments x.field.value.value y.field.value.value) →
    FieldsCanMerge schema fragments set
leaf_fields_merge schema fragments set leaf shapes fields = record {
  shapes = λ xs ys x y both.
      let first = only_leaf fragments both.first leaf xs x refl in
      let second = only_leaf fragments both.second leaf ys y refl in
      shapes x y first.1 second.1 (ends_hold SameKey xs ys x y both.keys);
  fields = λ xs ys x y both overlap.
      let first = only_leaf fragments both.first leaf xs x refl in
      let second = only_leaf fragments both.second leaf ys y refl in
      fields x y first.1 second.1 (ends_hold SameKey xs ys x y both.keys) (ends_hold (ParentsMayOverlap schema) xs ys x y overlap);
}

-- a chain from a set of two inline fragments begins in one of them
module _ (fragments : Fragments) (together : SelectionSet) (i j : Node InlineFragment)
    (is : selections_of together ≡ kind.InlineFragment i ∷ (kind.InlineFragment j ∷ [])) where
  abbrev IsOne : Selection → Type 0
  IsOne s = (s ≡ kind.InlineFragment i) ⊎ (s ≡ kind.InlineFragment j)

  stands_as_one : (s : Selection) → Contains (selections_of together) s → IsOne s
  stands_as_one s stands =
      All-contains IsOne (selections_of together) s
      (All-same IsOne (selections_of together) (kind.InlineFragment i ∷ (kind.InlineFragment j ∷ [])) is
      (All-cons IsOne (kind.InlineFragment i) (kind.InlineFragment j ∷ []) (inl refl)
      (All-cons IsOne (kind.InlineFragment j) [] (inr refl) (All-nil IsOne)))) stands

  -- both kinds of inclusion, from the two sets
  abbrev FromOne : SelectionSet → Type 0
  FromOne inner = Includes fragments i.value.value.selection_set inner ⊎ Includes fragments j.value.value.selection_set inner

  begins_in : (k : Node InlineFragment) (inner : SelectionSet) → Includes fragments k.value.value.selection_set inner →
      IsOne (kind.InlineFragment k) → FromOne inner
  begins_in k inner more (inl e) = inl (subst (λ (n : Node InlineFragment). Includes fragments n.value.value.selection_set inner) (same_inline k i e) more)
  begins_in k inner more (inr e) = inr (subst (λ (n : Node InlineFragment). Includes fragments n.value.value.selection_set inner) (same_inline k j e) more)

  no_field_is_one : (f : Node Field) → ¬ IsOne (kind.Field f)
  no_field_is_one f (inl e) = not_inline f i (sym e)
  no_field_is_one f (inr e) = not_inline f j (sym e)

  no_spread_is_one : (p : Node FragmentSpread) → ¬ IsOne (kind.FragmentSpread p)
  no_spread_is_one p (inl e) = spread_not_inline i p e
  no_spread_is_one p (inr e) = spread_not_inline j p e

  in_one : {set inner : SelectionSet} → Includes fragments set inner → (f : Node Field) → ((s : Selection) → Contains (selections_of set) s → IsOne s) →
      Contains (selections_of inner) (kind.Field f) → FromOne inner
  in_one includes_itself f ones stands = absurd (no_field_is_one f (ones (kind.Field f) stands))
  in_one (includes_inline_fragment {inner = inner} {i = k} there more) f ones stands = begins_in k inner more (ones (kind.InlineFragment k) there)
  in_one (includes_spread {p = p} there found more) f ones stands = absurd (no_spread_is_one p (ones (kind.FragmentSpread p) there))

  field_in_one : (x : FieldSelection) → FieldInExpandedSet fragments together x →
      FieldInExpandedSet fragments i.value.value.selection_set x ⊎ FieldInExpandedSet fragments j.value.value.selection_set x
  field_in_one x here = elim (in_one here.included x.field stands_as_one here.stands) [
    | inl included ↦ inl (record { inner = here.inner; included = included; stands = here.stands; parent_is = here.parent_is })
    | inr included ↦ inr (record { inner = here.inner; included = included; stands = here.stands; parent_is = here.parent_is })
  ]

  chain_in_one : (xs : List FieldSelection) → Chain fragments together xs →
      Chain fragments i.value.value.selection_set xs ⊎ Chain fragments j.value.value.selection_set xs
  chain_in_one _ (chain_of_one {x = x} here) = elim (field_in_one x here) [ inl here ↦ inl (chain_of_one here) | inr here ↦ inr (chain_of_one here) ]
  chain_in_one _ (chain_of_more {x = x} here more) =
      elim (field_in_one x here) [ inl here ↦ inl (chain_of_more here more) | inr here ↦ inr (chain_of_more here more) ]

-- two types overlap either way round, and each of them overlaps itself
overlap_back : (a b : ExtendedType) → MayOverlap a b → MayOverlap b a
overlap_back (Object a) (Object b) h = same_name_back a.value.value.name b.value.value.name h
overlap_back x (Object b) h = (h.1, h.0)
overlap_back x y h = (h.1, h.0)

overlap_itself : (a b : ExtendedType) → MayOverlap a b → MayOverlap a a
overlap_itself (Object a) b h = same_name_itself a.value.value.name
overlap_itself x b h = (h.0, h.0)

parents_back : (schema : Schema) (x y : FieldSelection) → ParentsMayOverlap schema x y → ParentsMayOverlap schema y x
parents_back schema x y h = record {
  first = h.second;
  second = h.first;
  first_is = h.second_is;
  second_is = h.first_is;
  overlap = overlap_back h.first h.second h.overlap;
}

parents_itself : (schema : Schema) (x y : FieldSelection) → ParentsMayOverlap schema x y → ParentsMayOverlap schema x x
parents_itself schema x y h = record {
  first = h.first;
  second = h.first;
  first_is = h.first_is;
  second_is = h.first_is;
  overlap = overlap_itself h.first h.second h.overlap;
}

module _ (schema : Schema) (fragments : Fragments) (set : SelectionSet) (x y : FieldSelection)
    (in_x : FieldInExpandedSet fragments set x) (in_y : FieldInExpandedSet fragments set y)
    (key : SameKey x y) (parents : ParentsMayOverlap schema x y) where
  -- one of the two fields, with a chain below it
  record Below (xs : List FieldSelection) : Type 0 where
    field' : FieldSelection
    is_one : (field' ≡ x) ⊎ (field' ≡ y)
    inside : FieldInExpandedSet fragments set field'
    chain : Chain fragments (set_of field') xs

  keys_of : (p q : FieldSelection) → (p ≡ x) ⊎ (p ≡ y) → (q ≡ x) ⊎ (q ≡ y) → SameKey p q × ParentsMayOverlap schema p q
  keys_of p q (inl e) (inl f) = rw (e, f) (same_name_itself (response_key x.field.value.value), parents_itself schema x y parents)
  keys_of p q (inl e) (inr f) = rw (e, f) (key, parents)
  keys_of p q (inr e) (inl f) =
      rw (e, f) (same_name_back (response_key x.field.value.value) (response_key y.field.value.value) key, parents_back schema x y parents)
  keys_of p q (inr e) (inr f) =
      rw (e, f) (same_name_itself (response_key y.field.value.value), parents_itself schema y x (parents_back schema x y parents))

  below : (i j : Node InlineFragment) → i.value.value.selection_set ≡ set_of x → j.value.value.selection_set ≡ set_of y → (xs : List FieldSelection) →
      Chain fragments i.value.value.selection_set xs ⊎ Chain fragments j.value.value.selection_set xs → Below xs
  below i j ei ej xs (inl c) = record { field' = x; is_one = inl refl; inside = in_x; chain = subst (λ s. Chain fragments s xs) ei c }
  below i j ei ej xs (inr c) = record { field' = y; is_one = inr refl; inside = in_y; chain = subst (λ s. Chain fragments s xs) ej c }

  pub sets_below_merge : (together : SelectionSet) (i j : Node InlineFragment) →
      selections_of together ≡ kind.InlineFragment i ∷ (kind.InlineFragment j ∷ []) →
      i.value.value.selection_set ≡ set_of x → j.value.value.selection_set ≡ set_of y →
      FieldsCanMerge schema fragments set → FieldsCanMerge schema fragments together
  sets_below_merge together i j is ei ej merges = record {
    shapes = λ xs ys a b both. merges.shapes _ _ a b (higher xs ys a b both).2;
    fields = λ xs ys a b both overlap. let up = higher xs ys a b both in merges.fields _ _ a b up.2 (up.3, overlap);
  } where
    higher : (xs ys : List FieldSelection) (a b : FieldSelection) → HaveSameResponsePath fragments together xs ys a b →
        (p : FieldSelection) × (q : FieldSelection) × HaveSameResponsePath fragments set (p ∷ xs) (q ∷ ys) a b × ParentsMayOverlap schema p q
    higher xs ys a b both =
        let p = below i j ei ej (xs ++ a ∷ []) (chain_in_one fragments together i j is (xs ++ a ∷ []) both.first) in
        let q = below i j ei ej (ys ++ b ∷ []) (chain_in_one fragments together i j is (ys ++ b ∷ []) both.second) in
        let k = keys_of p.field' q.field' p.is_one q.is_one in (
          p.field',
          q.field',
          record {
            first = chain_of_more p.inside p.chain;
            second = chain_of_more q.inside q.chain;
            keys = (k.0, both.keys);
          },
          k.1,
        )
