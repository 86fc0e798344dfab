-- Fields that are collected for objects of one type along a path come together in their operation, and parents
-- overlap on the way.
use Rattle.std.proofs.Common.{◌≡◌, ◌∷◌, ◌++◌, ◌∙◌, [], All, Bool, Contains, List, None, Option, Some, ap, refl, subst, sym, true, false}
use Rattle.std.proofs.lemmas.List.{same_from_push}
use Rattle.std.specs.Map.{lookup}
use Rattle.std.specs.Prelude.{IsFalse, IsTrue, Ok, filter}
use Rattle.std.proofs.lemmas.List.Elements.{All-contains, All-contains_itself, All-filter, All-head, AllZip-push, filter_passes}
use Rattle.graphql_documents.specs.Built.{IsBuilt, OperationIsBuilt, SetsAreBuilt}
use Rattle.graphql_specification.specs.CollectFields.{AppliesTo, CollectedFrom, CollectsFrom, Gathered, applies_interface, applies_itself, applies_union, collected_here, collected_in_inline_fragment, collected_in_spread, gathered_at_root, gathered_below}
use Rattle.graphql_documents.specs.Executables.{operations_of}
use Rattle.graphql_specification.specs.MergedSets.{key_of, under_key}
use Rattle.graphql_specification.specs.Merging.{Chain, FieldInExpandedSet, FieldSelection, MayOverlap, FieldsCanMerge, OverlapThroughout, ParentsMayOverlap, SameKey, SameNameAndArguments, SameResponseShape, HaveSameResponsePath, chain_of_more, chain_of_one, set_of, type_of}
use Rattle.graphql_nodes.specs.Names.{NameText, SameName, same_name}
use Rattle.graphql_documents.specs.Schemas.{is_composite, is_object_type, type_definition, type_field}
use Rattle.graphql_documents.specs.Selections.{Fragments, fragments_of, includes_inline_fragment, includes_itself, includes_spread, response_key, set_in_field, set_in_inline_fragment, set_itself}
use Rattle.graphql_documents.specs.declared.documents.components.Component.{Component}
use Rattle.graphql_documents.specs.declared.documents.definitions.FieldDefinition.{FieldDefinition}
use Rattle.graphql_documents.specs.declared.documents.executables.ExecutableDocument.{ExecutableDocument}
use Rattle.graphql_documents.specs.declared.documents.executables.Fragment.{Fragment}
use Rattle.graphql_documents.specs.declared.documents.executables.Operation.{Operation}
use Rattle.graphql_documents.specs.declared.documents.executables.SelectionSet.{SelectionSet}
use Rattle.graphql_nodes.specs.declared.nodes.Node.{Node}
use Rattle.graphql_documents.specs.declared.documents.schemas.ExtendedType.TheVariants.{Enum, InputObject, Interface, Object, Scalar, Union}
use Rattle.graphql_documents.specs.declared.documents.schemas.ExtendedType.{ExtendedType}
use Rattle.graphql_documents.specs.declared.documents.schemas.Schema.{Schema}
use Rattle.graphql_nodes.proofs.NameLemmas.{same_name_back, same_name_itself, same_name_then}
use Rattle.graphql_documents.proofs.ListLemmas.{All-append_right}
use Rattle.graphql_documents.proofs.SelectionLemmas.{one_fragment_found}
use Rattle.graphql_rules.proofs.SchemaLaws.{one_type_found}
use Rattle.graphql_variables.proofs.UseLemmas.{any_has}
use Rattle.graphql_validation.proofs.CollectingLemmas.{lists_what_is_collected}

-- a collected field is inside the set, on a type that applies
pub collected_inside : {schema : Schema} {fragments : Fragments} {object : NameText} {set : SelectionSet} {x : FieldSelection} →
    CollectedFrom schema fragments object set x → FieldInExpandedSet fragments set x × AppliesTo schema object x.parent
collected_inside {schema} {object = object} {set = set} (collected_here applies stands is) =
    (record { inner = set; included = includes_itself; stands = stands; parent_is = is }, subst (AppliesTo schema object) (sym is) applies)
collected_inside (collected_in_inline_fragment applies stands condition more) =
    let r = collected_inside more in (
      record { inner = r.0.inner; included = includes_inline_fragment stands r.0.included; stands = r.0.stands; parent_is = r.0.parent_is },
      r.1,
    )
collected_inside (collected_in_spread applies stands found more) =
    let r = collected_inside more in (
      record { inner = r.0.inner; included = includes_spread stands found r.0.included; stands = r.0.stands; parent_is = r.0.parent_is },
      r.1,
    )

-- a type that has a field is composite
record IsComposite (schema : Schema) (name : NameText) : Type 0 where
  d : ExtendedType
  defined : type_definition schema name ≡ Some d
  composite : IsTrue (is_composite d)

has_field : (schema : Schema) (name field : NameText) (definition : Component FieldDefinition) → type_field schema name field ≡ Ok definition → IsComposite schema name
has_field schema name field definition has = by_definition (type_definition schema name) refl where
  by_kind : (d : ExtendedType) → type_definition schema name ≡ Some d → IsComposite schema name
  by_kind (Object d) is = record { d = Object d; defined = is; composite = refl }
  by_kind (Interface d) is = record { d = Interface d; defined = is; composite = refl }
  by_kind (Union d) is = record { d = Union d; defined = is; composite = refl }
  by_kind (Scalar d) is = absurd (let h = (rw is at has) in let no' : ⊥ = cc in no')
  by_kind (Enum d) is = absurd (let h = (rw is at has) in let no' : ⊥ = cc in no')
  by_kind (InputObject d) is = absurd (let h = (rw is at has) in let no' : ⊥ = cc in no')

  by_definition : (o : Option ExtendedType) → type_definition schema name ≡ o → IsComposite schema name
  by_definition None is = absurd (let h = (rw is at has) in let no' : ⊥ = cc in no')
  by_definition (Some d) is = by_kind d is

overlap_second : (x y : ExtendedType) → IsTrue (is_composite x) → IsTrue (is_composite y) → IsFalse (is_object_type y) → MayOverlap x y
overlap_second (Object a) (Object b) cx cy abstract' = absurd (let no' : ⊥ = cc in no')
overlap_second (Object a) (Interface b) cx cy abstract' = (cx, cy)
overlap_second (Object a) (Union b) cx cy abstract' = (cx, cy)
overlap_second (Object a) (Scalar b) cx cy abstract' = (cx, cy)
overlap_second (Object a) (Enum b) cx cy abstract' = (cx, cy)
overlap_second (Object a) (InputObject b) cx cy abstract' = (cx, cy)
overlap_second (Interface a) y cx cy abstract' = (cx, cy)
overlap_second (Union a) y cx cy abstract' = (cx, cy)
overlap_second (Scalar a) y cx cy abstract' = (cx, cy)
overlap_second (Enum a) y cx cy abstract' = (cx, cy)
overlap_second (InputObject a) y cx cy abstract' = (cx, cy)

overlap_first : (x y : ExtendedType) → IsTrue (is_composite x) → IsTrue (is_composite y) → IsFalse (is_object_type x) → MayOverlap x y
overlap_first (Object a) y cx cy abstract' = absurd (let no' : ⊥ = cc in no')
overlap_first (Interface a) y cx cy abstract' = (cx, cy)
overlap_first (Union a) y cx cy abstract' = (cx, cy)
overlap_first (Scalar a) y cx cy abstract' = (cx, cy)
overlap_first (Enum a) y cx cy abstract' = (cx, cy)
overlap_first (InputObject a) y cx cy abstract' = (cx, cy)

overlap_itself : (x : ExtendedType) → IsTrue (is_composite x) → MayOverlap x x
overlap_itself (Object a) c = same_name_itself a.value.value.name
overlap_itself (Interface a) c = (c, c)
overlap_itself (Union a) c = (c, c)
overlap_itself (Scalar a) c = (c, c)
overlap_itself (Enum a) c = (c, c)
overlap_itself (InputObject a) c = (c, c)

module _ (schema : Schema) (object : NameText) (x y : FieldSelection) (on_x : IsComposite schema x.parent) (on_y : IsComposite schema y.parent) where
  -- one of the parents is no object type
  first_is_abstract : (d : ExtendedType) → type_definition schema x.parent ≡ Some d → IsTrue (is_composite d) → IsFalse (is_object_type d) → ParentsMayOverlap schema x y
  first_is_abstract d is c abstract' = record { first = d; second = on_y.d; first_is = is; second_is = on_y.defined; overlap = overlap_first d on_y.d c on_y.composite abstract' }

  second_is_abstract : (d : ExtendedType) → type_definition schema y.parent ≡ Some d → IsTrue (is_composite d) → IsFalse (is_object_type d) → ParentsMayOverlap schema x y
  second_is_abstract d is c abstract' = record { first = on_x.d; second = d; first_is = on_x.defined; second_is = is; overlap = overlap_second on_x.d d on_x.composite c abstract' }

  -- two types that apply to one object overlap
  applying_overlap : AppliesTo schema object x.parent → AppliesTo schema object y.parent → ParentsMayOverlap schema x y
  applying_overlap (applies_interface o i lists) b = first_is_abstract (Interface _) i refl refl
  applying_overlap (applies_union o u lists) b = first_is_abstract (Union _) u refl refl
  applying_overlap (applies_itself same) (applies_interface o i lists) = second_is_abstract (Interface _) i refl refl
  applying_overlap (applies_itself same) (applies_union o u lists) = second_is_abstract (Union _) u refl refl
  applying_overlap (applies_itself same) (applies_itself same') = record {
    first = on_x.d;
    second = on_x.d;
    first_is = on_x.defined;
    second_is = one_type_found schema y.parent x.parent (same_name_then y.parent object x.parent same' (same_name_back x.parent object same)) ∙ on_x.defined;
    overlap = overlap_itself on_x.d on_x.composite;
  }

-- a field more at the end of a chain
begins : {fragments : Fragments} {set : SelectionSet} {u : FieldSelection} {xs : List FieldSelection} → Chain fragments set (u ∷ xs) → FieldInExpandedSet fragments set u
begins (chain_of_one here) = here
begins (chain_of_more here more) = here

chain_further : {fragments : Fragments} {set : SelectionSet} {xs : List FieldSelection} (u x : FieldSelection) → Chain fragments set xs → (before : List FieldSelection) →
    xs ≡ before ++ u ∷ [] → FieldInExpandedSet fragments (set_of u) x → Chain fragments set (xs ++ x ∷ [])
chain_further {fragments} u x (chain_of_one {x = w} here) [] is inside =
    chain_of_more here (chain_of_one (subst (λ v. FieldInExpandedSet fragments (set_of v) x) (sym (same_head is)) inside)) where
      same_head : w ∷ [] ≡ u ∷ [] → w ≡ u
      same_head e = cc
chain_further u x (chain_of_one here) (b ∷ []) is inside = absurd (let no' : ⊥ = cc in no')
chain_further u x (chain_of_one here) (b ∷ (c ∷ bs)) is inside = absurd (let no' : ⊥ = cc in no')
chain_further u x (chain_of_more here (chain_of_one further)) [] is inside = absurd (let no' : ⊥ = cc in no')
chain_further u x (chain_of_more here (chain_of_more further more)) [] is inside = absurd (let no' : ⊥ = cc in no')
chain_further u x (chain_of_more {x = w} {xs = ws} here more) (b ∷ bs) is inside = chain_of_more here (chain_further u x more bs (same_tail is) inside) where
  same_tail : w ∷ ws ≡ b ∷ (bs ++ u ∷ []) → ws ≡ bs ++ u ∷ []
  same_tail e = cc

kept_passes : {X : Type 0} (p : X → Bool) (xs : List X) (x : X) → Contains (filter p xs) x → Contains xs x × (p x ≡ true)
kept_passes p xs x in' = (
  All-contains (Contains xs) (filter p xs) x (All-filter p (Contains xs) xs (All-contains_itself xs)) in',
  All-contains (λ y. p y ≡ true) (filter p xs) x (filter_passes p xs) in',
)

ends_empty : {X : Type 0} (xs : List X) (x : X) → ¬ (xs ++ x ∷ [] ≡ [])
ends_empty [] x is = let no' : ⊥ = cc in no'
ends_empty (y ∷ ys) x is = let no' : ⊥ = cc in no'

-- what a name finds among fragments whose sets are built is built
found_built : (schema : Schema) (test : NameText → Bool) (es : List (NameText × Node Fragment)) (d : Node Fragment) →
    All (λ entry. SameName entry.0 entry.1.value.value.name × SetsAreBuilt schema entry.1.value.value.selection_set) es → lookup test es ≡ Some d →
    SetsAreBuilt schema d.value.value.selection_set
found_built schema test [] d all found = absurd (let no' : ⊥ = cc in no')
found_built schema test (e ∷ es) d all found = decided (test e.0) refl (λ later. found_built schema test es d (All-append_right (λ entry. SameName entry.0 entry.1.value.value.name × SetsAreBuilt schema entry.1.value.value.selection_set) (e ∷ []) es all) later) where
  decided : (b : Bool) → test e.0 ≡ b → (lookup test es ≡ Some d → SetsAreBuilt schema d.value.value.selection_set) → SetsAreBuilt schema d.value.value.selection_set
  decided true is more =
      let here : Some e.1 ≡ Some d = rw is at found in
      let it : e.1 ≡ d = cc in
      subst (λ (f : Node Fragment). SetsAreBuilt schema f.value.value.selection_set) it (All-head (λ entry. SameName entry.0 entry.1.value.value.name × SetsAreBuilt schema entry.1.value.value.selection_set) e es all).1
  decided false is more = more (rw is at found)

module _ (schema : Schema) (document : ExecutableDocument) (built : IsBuilt schema document) where
  abbrev F : Fragments
  F = fragments_of document

  -- a collected field is built for its parent, and its set is built
  collected_built : {object : NameText} {set : SelectionSet} {x : FieldSelection} → CollectedFrom schema F object set x → SetsAreBuilt schema set →
      IsComposite schema x.parent × SetsAreBuilt schema (set_of x)
  collected_built (collected_here {set = set} {x = x} applies stands is) sets =
      let f = (sets set set_itself).fields x.field stands in (
        subst (IsComposite schema) (sym is) (has_field schema set.ty x.field.value.value.name f.definition f.is_of_parent),
        λ s written. sets s (set_in_field stands written),
      )
  collected_built (collected_in_inline_fragment applies stands condition more) sets = collected_built more (λ s written. sets s (set_in_inline_fragment stands written))
  collected_built (collected_in_spread {p = p} {d = d} applies stands found more) sets =
      collected_built more (found_built schema (same_name p.value.value.fragment_name) document.fragments.entries d built.fragments found)

  module _ (operation : Operation) (sets : SetsAreBuilt schema operation.selection_set) where
    gathered_built : {path : List (NameText × NameText)} {set : SelectionSet} → Gathered schema F operation path set → SetsAreBuilt schema set
    gathered_built gathered_at_root = sets
    gathered_built (gathered_below object key x above from is) = (collected_built from (gathered_built above)).1

    -- two fields come together in the operation, and their parents overlap on the way
    record Meet (x y : FieldSelection) : Type 0 where
      xs : List FieldSelection
      ys : List FieldSelection
      both : HaveSameResponsePath F operation.selection_set xs ys x y
      overlap : OverlapThroughout schema xs ys x y

    meet_below : (u v x y : FieldSelection) → Meet u v → FieldInExpandedSet F (set_of u) x → FieldInExpandedSet F (set_of v) y → SameKey x y → ParentsMayOverlap schema x y → Meet x y
    meet_below u v x y above in_x in_y key parents = record {
      xs = above.xs ++ u ∷ [];
      ys = above.ys ++ v ∷ [];
      both = record {
        first = chain_further u x above.both.first above.xs refl in_x;
        second = chain_further v y above.both.second above.ys refl in_y;
        keys = AllZip-push SameKey (above.xs ++ u ∷ []) (above.ys ++ v ∷ []) x y above.both.keys key;
      };
      overlap = AllZip-push (ParentsMayOverlap schema) (above.xs ++ u ∷ []) (above.ys ++ v ∷ []) x y above.overlap parents;
    }

    meet_at_root : (x y : FieldSelection) → FieldInExpandedSet F operation.selection_set x → FieldInExpandedSet F operation.selection_set y → SameKey x y → ParentsMayOverlap schema x y → Meet x y
    meet_at_root x y in_x in_y key parents = record {
      xs = [];
      ys = [];
      both = record { first = chain_of_one in_x; second = chain_of_one in_y; keys = (key, tt) };
      overlap = (parents, tt);
    }

    -- fields under one key, collected for objects of one type from sets that were gathered along one path
    meet_along : {path path' : List (NameText × NameText)} {s t : SelectionSet} → Gathered schema F operation path s → Gathered schema F operation path' t → path ≡ path' →
        (object : NameText) (x y : FieldSelection) → CollectedFrom schema F object s x → CollectedFrom schema F object t y → SameKey x y → Meet x y
    meet_along gathered_at_root gathered_at_root is object x y from_x from_y key =
        let cx = collected_inside from_x in
        let cy = collected_inside from_y in
        meet_at_root x y cx.0 cy.0 key (applying_overlap schema object x y (collected_built from_x sets).0 (collected_built from_y sets).0 cx.1 cy.1)
    meet_along gathered_at_root (gathered_below {path = path} o k v above from_v is_v) is object x y from_x from_y key = absurd (ends_empty path (o, k) (sym is))
    meet_along (gathered_below {path = path} o k u above from_u is_u) gathered_at_root is object x y from_x from_y key = absurd (ends_empty path (o, k) is)
    meet_along (gathered_below {path = p} o k u above from_u is_u) (gathered_below {path = p'} {set = above_v} o' k' v above' from_v is_v) is object x y from_x from_y key =
        let e = same_from_push p p' (o, k) (o', k') is in
        let same_o : o' ≡ o = sym (ap (λ q. q.0) e.1) in
        let same_k : k' ≡ k = sym (ap (λ q. q.1) e.1) in
        let keys : SameKey u v = same_name_then (response_key u.field.value.value) k (response_key v.field.value.value) is_u
        (same_name_back (response_key v.field.value.value) k (subst (SameName (response_key v.field.value.value)) same_k is_v)) in
        let cx = collected_inside from_x in
        let cy = collected_inside from_y in
        meet_below u v x y (meet_along above above' e.0 o u v from_u (subst (λ n. CollectedFrom schema F n above_v v) same_o from_v) keys) cx.0 cy.0 key
        (applying_overlap schema object x y (collected_built from_x (collected_built from_u (gathered_built above)).1).0
        (collected_built from_y (collected_built from_v (gathered_built above')).1).0 cx.1 cy.1)

    -- where the operation merges, they are one field with the same arguments, of one shape
    pub agree_along : {path : List (NameText × NameText)} {s t : SelectionSet} → FieldsCanMerge schema F operation.selection_set → Gathered schema F operation path s → Gathered schema F operation path t →
        (object : NameText) (x y : FieldSelection) → CollectedFrom schema F object s x → CollectedFrom schema F object t y → SameKey x y →
        SameNameAndArguments x.field.value.value y.field.value.value × SameResponseShape schema (type_of x) (type_of y)
    agree_along merges from_s from_t object x y from_x from_y key =
        let m = meet_along from_s from_t refl object x y from_x from_y key in
        (merges.fields m.xs m.ys x y m.both m.overlap, merges.shapes m.xs m.ys x y m.both)

  -- the same of all fields under a key of sets that were gathered along the path
  pub agree_under_key : (operation : Node Operation) → Contains (operations_of document) operation → FieldsCanMerge schema F operation.value.value.selection_set →
      (path : List (NameText × NameText)) (object : NameText) (sets : List SelectionSet) → All (Gathered schema F operation.value.value path) sets →
      (fields : List FieldSelection) → CollectsFrom schema F object [] sets fields → (key : NameText) (x y : FieldSelection) →
      Contains (under_key key fields) x → Contains (under_key key fields) y →
      SameNameAndArguments x.field.value.value y.field.value.value × SameResponseShape schema (type_of x) (type_of y)
  agree_under_key operation stands merges path object sets gathered fields walk key x y in_x in_y =
      let is_built = All-contains (λ (o : Node Operation). OperationIsBuilt schema o.value.value) (operations_of document) operation built.operations stands in
      let kx = kept_passes (λ (z : FieldSelection). same_name (key_of z) key) fields x in_x in
      let ky = kept_passes (λ (z : FieldSelection). same_name (key_of z) key) fields y in_y in
      let from_x = any_has (λ s. CollectedFrom schema F object s x) sets ((lists_what_is_collected schema F object (one_fragment_found document) sets fields walk x).0 kx.0) in
      let from_y = any_has (λ s. CollectedFrom schema F object s y) sets ((lists_what_is_collected schema F object (one_fragment_found document) sets fields walk y).0 ky.0) in
      agree_along operation.value.value is_built.sets merges
      (All-contains (Gathered schema F operation.value.value path) sets from_x.0 gathered from_x.1)
      (All-contains (Gathered schema F operation.value.value path) sets from_y.0 gathered from_y.1)
      object x y from_x.2 from_y.2
      (same_name_then (key_of x) key (key_of y) kx.1 (same_name_back (key_of y) key ky.1))
