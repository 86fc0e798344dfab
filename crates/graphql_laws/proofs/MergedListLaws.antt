-- Two fields of a merged list come together in an operation, and two that come together are in one.
use Rattle.std.proofs.Common.{◌≡◌, ◌↔◌, List, [], ◌∷◌, ◌++◌, ◌⊎◌, inl, inr, refl, subst, Contains}
use Rattle.std.specs.List.{AllZip}
use Rattle.std.proofs.lemmas.List.Elements.{AllZip-push}
use Rattle.graphql_nodes.specs.Names.{NameText, SameName}
use Rattle.graphql_documents.specs.Selections.{Fragments}
use Rattle.graphql_specification.specs.Merging.{FieldSelection, FieldInExpandedSet, Chain, chain_of_one, chain_of_more, ParentsMayOverlap, HaveSameResponsePath, OverlapThroughout, FieldsCanMerge, set_of, type_of, SameKey, SameResponseShape, SameNameAndArguments, Pass, shape_pass, field_pass}
use Rattle.graphql_specification.specs.MergedSets.{Expansion, IsGroup, nested_sets, MergedSet, merged_operation, merged_below}
use Rattle.graphql_nodes.specs.declared.nodes.Node.{Node}
use Rattle.graphql_documents.specs.declared.documents.schemas.Schema.{Schema}
use Rattle.graphql_documents.specs.declared.documents.executables.SelectionSet.{SelectionSet}
use Rattle.graphql_documents.specs.declared.documents.executables.Operation.{Operation}
use Rattle.graphql_documents.proofs.ListLemmas.{none_stands, only_one, stands_first}
use Rattle.graphql_laws.proofs.ExpandedListLaws.{lists_what_is_inside, below_lists_what_is_inside, nested_of_group}
use Rattle.graphql_laws.proofs.GroupLaws.{shape_groups, field_groups}

-- a chain from its front
pub begins : {fragments : Fragments} {set : SelectionSet} {x : FieldSelection} {xs : List FieldSelection} → Chain fragments set (x ∷ xs) → FieldInExpandedSet fragments set x
begins (chain_of_one here) = here
begins (chain_of_more here more) = here

goes_on : {fragments : Fragments} {set : SelectionSet} {x : FieldSelection} {xs : List FieldSelection} → Chain fragments set (x ∷ xs) →
    (xs ≡ []) ⊎ Chain fragments (set_of x) xs
goes_on (chain_of_one here) = inl refl
goes_on (chain_of_more here more) = inr more

ends : (xs : List FieldSelection) (x : FieldSelection) → ¬ (xs ++ x ∷ [] ≡ [])
ends [] x e = let no : ⊥ = cc in no
ends (y ∷ ys) x e = let no : ⊥ = cc in no

pub after_first : {fragments : Fragments} {set : SelectionSet} (u : FieldSelection) (xs : List FieldSelection) (x : FieldSelection) →
    Chain fragments set (u ∷ (xs ++ x ∷ [])) → Chain fragments (set_of u) (xs ++ x ∷ [])
after_first u xs x chain = elim (goes_on chain) [
  | inl none ↦ absurd (ends xs x none)
  | inr more ↦ more
]

-- one field more at its end
chain_push : {fragments : Fragments} {set : SelectionSet} (xs : List FieldSelection) (u x : FieldSelection) → Chain fragments set (xs ++ u ∷ []) →
    FieldInExpandedSet fragments (set_of u) x → Chain fragments set ((xs ++ u ∷ []) ++ x ∷ [])
chain_push [] u x chain here = chain_of_more (begins chain) (chain_of_one here)
chain_push (w ∷ ws) u x chain here = chain_of_more (begins chain) (chain_push ws u x (after_first w ws u chain) here)

-- what a pass asks of the parents of two fields, and of those along two chains
abbrev pub ParentsIn : Schema → Pass → FieldSelection → FieldSelection → Type 0
ParentsIn schema shape_pass x y = Unit {0}
ParentsIn schema field_pass x y = ParentsMayOverlap schema x y

abbrev pub Throughout : Schema → Pass → List FieldSelection → List FieldSelection → Type 0
Throughout schema shape_pass xs ys = Unit {0}
Throughout schema field_pass xs ys = AllZip (ParentsMayOverlap schema) xs ys

pub throughout_one : (schema : Schema) (pass : Pass) (x y : FieldSelection) → ParentsIn schema pass x y → Throughout schema pass (x ∷ []) (y ∷ [])
throughout_one schema shape_pass x y h = tt
throughout_one schema field_pass x y h = (h, tt)

throughout_push : (schema : Schema) (pass : Pass) (xs ys : List FieldSelection) (x y : FieldSelection) → Throughout schema pass xs ys → ParentsIn schema pass x y →
    Throughout schema pass (xs ++ x ∷ []) (ys ++ y ∷ [])
throughout_push schema shape_pass xs ys x y all h = tt
throughout_push schema field_pass xs ys x y all h = AllZip-push (ParentsMayOverlap schema) xs ys x y all h

pub throughout_first : (schema : Schema) (pass : Pass) (u v : FieldSelection) (xs ys : List FieldSelection) → Throughout schema pass (u ∷ xs) (v ∷ ys) →
    ParentsIn schema pass u v × Throughout schema pass xs ys
throughout_first schema shape_pass u v xs ys all = (tt, tt)
throughout_first schema field_pass u v xs ys all = (all.0, all.1)

-- the fields of a group are those of its list that the pass puts together
pub group_has : (schema : Schema) (pass : Pass) (fields group : List FieldSelection) (x y : FieldSelection) → IsGroup schema fields pass group →
    Contains group x → Contains group y → Contains fields x × Contains fields y × SameKey x y × ParentsIn schema pass x y
group_has schema shape_pass fields group x y is in_x in_y =
    let both = (shape_groups schema fields x y).0 (group, is, in_x, in_y) in (both.0, both.1, both.2, tt)
group_has schema field_pass fields group x y is in_x in_y = (field_groups schema fields x y).0 (group, is, in_x, in_y)

pub has_group : (schema : Schema) (pass : Pass) (fields : List FieldSelection) (x y : FieldSelection) → Contains fields x → Contains fields y → SameKey x y →
    ParentsIn schema pass x y → (group : List FieldSelection) × IsGroup schema fields pass group × Contains group x × Contains group y
has_group schema shape_pass fields x y in_x in_y key parents = (shape_groups schema fields x y).1 (in_x, in_y, key)
has_group schema field_pass fields x y in_x in_y key parents = (field_groups schema fields x y).1 (in_x, in_y, key, parents)

module _ (schema : Schema) (fragments : Fragments) (respects : (a b : NameText) → SameName a b → fragments a ≡ fragments b) (operations : List (Node Operation)) where
  -- two fields come together in an operation
  record Meet (pass : Pass) (x y : FieldSelection) : Type 0 where
    operation : Node Operation
    xs : List FieldSelection
    ys : List FieldSelection
    stands : Contains operations operation
    both : HaveSameResponsePath fragments operation.value.value.selection_set xs ys x y
    overlap : Throughout schema pass (xs ++ x ∷ []) (ys ++ y ∷ [])

  meet_below : (pass : Pass) (u v x y : FieldSelection) → Meet pass u v → FieldInExpandedSet fragments (set_of u) x → FieldInExpandedSet fragments (set_of v) y →
      SameKey x y → ParentsIn schema pass x y → Meet pass x y
  meet_below pass u v x y above in_x in_y key parents = record {
    operation = above.operation;
    xs = above.xs ++ u ∷ [];
    ys = above.ys ++ v ∷ [];
    stands = above.stands;
    both = record {
      first = chain_push above.xs u x above.both.first in_x;
      second = chain_push above.ys v y above.both.second in_y;
      keys = AllZip-push SameKey (above.xs ++ u ∷ []) (above.ys ++ v ∷ []) x y above.both.keys key;
    };
    overlap = throughout_push schema pass (above.xs ++ u ∷ []) (above.ys ++ v ∷ []) x y above.overlap parents;
  }

  come_together : {pass : Pass} {fields : List FieldSelection} → MergedSet schema fragments operations pass fields → (x y : FieldSelection) →
      Contains fields x → Contains fields y → SameKey x y → ParentsIn schema pass x y → Meet pass x y
  come_together {pass} (merged_operation {o = o} {fields = fields} stands expands) x y in_x in_y key parents =
      let set = o.value.value.selection_set in
      let from_x = (lists_what_is_inside fragments respects (set ∷ []) fields expands x).0 in_x in
      let from_y = (lists_what_is_inside fragments respects (set ∷ []) fields expands y).0 in_y in
      record {
        operation = o;
        xs = [];
        ys = [];
        stands = stands;
        both = record {
          first = chain_of_one (subst (λ s. FieldInExpandedSet fragments s x) (only_one set from_x.0 from_x.1) from_x.2);
          second = chain_of_one (subst (λ s. FieldInExpandedSet fragments s y) (only_one set from_y.0 from_y.1) from_y.2);
          keys = (key, tt);
        };
        overlap = throughout_one schema pass x y parents;
      }
  come_together {pass} (merged_below {fields = fields} {below = below} above step) x y in_x in_y key parents =
      let from_x = (below_lists_what_is_inside fragments respects step.group below step.expansion x).0 in_x in
      let from_y = (below_lists_what_is_inside fragments respects step.group below step.expansion y).0 in_y in
      let outer = group_has schema pass fields step.group from_x.0 from_y.0 step.is_group from_x.1 from_y.1 in
      meet_below pass from_x.0 from_y.0 x y (come_together above from_x.0 from_y.0 outer.0 outer.1 outer.2 outer.3) from_x.2 from_y.2 key parents

  -- a merged list with both
  record InOneList (pass : Pass) (x y : FieldSelection) : Type 0 where
    fields : List FieldSelection
    merged : MergedSet schema fragments operations pass fields
    first : Contains fields x
    second : Contains fields y

  module _ (expansions : (sets : List SelectionSet) → (fields : List FieldSelection) × Expansion fragments sets fields) (pass : Pass) (x y : FieldSelection) where
    -- what is inside two sets is in the list
    HasInExpandedSet : List FieldSelection → SelectionSet → Type 0
    HasInExpandedSet fields set = (z : FieldSelection) → FieldInExpandedSet fragments set z → Contains fields z

    from_list : (xs ys : List FieldSelection) (s t : SelectionSet) (fields : List FieldSelection) → MergedSet schema fragments operations pass fields →
        HasInExpandedSet fields s → HasInExpandedSet fields t → Chain fragments s (xs ++ x ∷ []) → Chain fragments t (ys ++ y ∷ []) →
        AllZip SameKey (xs ++ x ∷ []) (ys ++ y ∷ []) → Throughout schema pass (xs ++ x ∷ []) (ys ++ y ∷ []) → InOneList pass x y
    unfolding HasInExpandedSet
    from_list [] [] s t fields merged in_s in_t first second keys parents =
        record { fields = fields; merged = merged; first = in_s x (begins first); second = in_t y (begins second) }
    from_list [] (v ∷ []) s t fields merged in_s in_t first second keys parents = absurd keys.1
    from_list [] (v ∷ (w ∷ ys)) s t fields merged in_s in_t first second keys parents = absurd keys.1
    from_list (u ∷ []) [] s t fields merged in_s in_t first second keys parents = absurd keys.1
    from_list (u ∷ (w ∷ xs)) [] s t fields merged in_s in_t first second keys parents = absurd keys.1
    from_list (u ∷ xs) (v ∷ ys) s t fields merged in_s in_t first second keys parents =
        let outer = throughout_first schema pass u v (xs ++ x ∷ []) (ys ++ y ∷ []) parents in
        let group = has_group schema pass fields u v (in_s u (begins first)) (in_t v (begins second)) keys.0 outer.0 in
        let below = expansions (nested_sets group.0) in
        let more = after_first u xs x first in
        let lists = λ (w : FieldSelection) (in_w : Contains group.0 w) (z : FieldSelection) (here : FieldInExpandedSet fragments (set_of w) z).
        (below_lists_what_is_inside fragments respects group.0 below.0 below.1 z).1 (w, in_w, here) in
        let nested = λ (none : nested_sets group.0 ≡ []). nothing_nested group.0 u (next xs more) group.2 none in
        from_list xs ys (set_of u) (set_of v) below.0
        (merged_below merged (record { group = group.0; is_group = group.1; nested = nested; expansion = below.1 }))
        (lists u group.2) (lists v group.3) more (after_first v ys y second) keys.1 outer.1 where
          next : (xs : List FieldSelection) → Chain fragments (set_of u) (xs ++ x ∷ []) → (z : FieldSelection) × FieldInExpandedSet fragments (set_of u) z
          next [] chain = (x, begins chain)
          next (z ∷ zs) chain = (z, begins chain)

          nothing_nested : (group : List FieldSelection) (w : FieldSelection) → (z : FieldSelection) × FieldInExpandedSet fragments (set_of w) z → Contains group w → nested_sets group ≡ [] → ⊥
          nothing_nested group w here in_w none =
              none_stands (set_of w) (subst (λ l. Contains l (set_of w)) none (nested_of_group fragments group w here.0 in_w here.1))

    in_one_list : (o : Node Operation) (xs ys : List FieldSelection) → Contains operations o → HaveSameResponsePath fragments o.value.value.selection_set xs ys x y →
        Throughout schema pass (xs ++ x ∷ []) (ys ++ y ∷ []) → InOneList pass x y
    unfolding HasInExpandedSet
    in_one_list o xs ys stands both parents =
        let set = o.value.value.selection_set in
        let root = expansions (set ∷ []) in
        let lists = λ (z : FieldSelection) (here : FieldInExpandedSet fragments set z).
        (lists_what_is_inside fragments respects (set ∷ []) root.0 root.1 z).1 (set, stands_first set [], here) in
        from_list xs ys set set root.0 (merged_operation stands root.1) lists lists both.first both.second both.keys parents

  pub shapes_come_together : (fields : List FieldSelection) (x y : FieldSelection) → MergedSet schema fragments operations shape_pass fields →
      Contains fields x → Contains fields y → SameKey x y →
      (o : Node Operation) × (xs : List FieldSelection) × (ys : List FieldSelection) × Contains operations o × HaveSameResponsePath fragments o.value.value.selection_set xs ys x y
  shapes_come_together fields x y merged in_x in_y key =
      let m = come_together merged x y in_x in_y key tt in (m.operation, m.xs, m.ys, m.stands, m.both)

  pub fields_come_together : (fields : List FieldSelection) (x y : FieldSelection) → MergedSet schema fragments operations field_pass fields →
      Contains fields x → Contains fields y → SameKey x y → ParentsMayOverlap schema x y →
      (o : Node Operation) × (xs : List FieldSelection) × (ys : List FieldSelection) × Contains operations o × HaveSameResponsePath fragments o.value.value.selection_set xs ys x y × OverlapThroughout schema xs ys x y
  fields_come_together fields x y merged in_x in_y key parents =
      let m = come_together merged x y in_x in_y key parents in (m.operation, m.xs, m.ys, m.stands, m.both, m.overlap)

  module _ (expansions : (sets : List SelectionSet) → (fields : List FieldSelection) × Expansion fragments sets fields) where
    pub merging_by_lists : ((o : Node Operation) → Contains operations o → FieldsCanMerge schema fragments o.value.value.selection_set) ↔ (
        ((fields : List FieldSelection) → MergedSet schema fragments operations shape_pass fields → (x y : FieldSelection) → Contains fields x → Contains fields y → SameKey x y →
        SameResponseShape schema (type_of x) (type_of y)) ×
        ((fields : List FieldSelection) → MergedSet schema fragments operations field_pass fields → (x y : FieldSelection) → Contains fields x → Contains fields y → SameKey x y →
        ParentsMayOverlap schema x y → SameNameAndArguments x.field.value.value y.field.value.value)
        )
    merging_by_lists = (
      λ merges. (
        λ fields merged x y in_x in_y key.
            let m = come_together merged x y in_x in_y key tt in
            (merges m.operation m.stands).shapes m.xs m.ys x y m.both,
        λ fields merged x y in_x in_y key parents.
            let m = come_together merged x y in_x in_y key parents in
            (merges m.operation m.stands).fields m.xs m.ys x y m.both m.overlap,
      ),
      λ agree o stands. record {
        shapes = λ xs ys x y both.
            let l = in_one_list expansions shape_pass x y o xs ys stands both tt in
            agree.0 l.fields l.merged x y l.first l.second (last_key xs ys x y both.keys);
        fields = λ xs ys x y both overlap.
            let l = in_one_list expansions field_pass x y o xs ys stands both overlap in
            agree.1 l.fields l.merged x y l.first l.second (last_key xs ys x y both.keys) (last_parents xs ys x y overlap);
      },
    ) where
      at_ends : (R : FieldSelection → FieldSelection → Type 0) (xs ys : List FieldSelection) (x y : FieldSelection) → AllZip R (xs ++ x ∷ []) (ys ++ y ∷ []) → R x y
      at_ends R [] [] x y all = all.0
      at_ends R [] (v ∷ []) x y all = absurd all.1
      at_ends R [] (v ∷ (w ∷ ys)) x y all = absurd all.1
      at_ends R (u ∷ []) [] x y all = absurd all.1
      at_ends R (u ∷ (w ∷ xs)) [] x y all = absurd all.1
      at_ends R (u ∷ xs) (v ∷ ys) x y all = at_ends R xs ys x y all.1

      last_key : (xs ys : List FieldSelection) (x y : FieldSelection) → AllZip SameKey (xs ++ x ∷ []) (ys ++ y ∷ []) → SameKey x y
      last_key xs ys x y all = at_ends SameKey xs ys x y all

      last_parents : (xs ys : List FieldSelection) (x y : FieldSelection) → OverlapThroughout schema xs ys x y → ParentsMayOverlap schema x y
      last_parents xs ys x y all = at_ends (ParentsMayOverlap schema) xs ys x y all
