-- The lists that a walk has seen decide whether the operations merge.
use Rattle.std.proofs.Common.{◌≡◌, ◌↔◌, List, [], ◌∷◌, ℕ, inl, inr, sym, ◌∙◌, ap, subst, All, Contains}
use Rattle.std.specs.Prelude.{IsTrue}
use Rattle.std.specs.Str.{bytes_eq}
use Rattle.std.proofs.lemmas.List.Elements.{All-contains, Contains-append_cases}
use Rattle.indexmap.specs.IndexMap.{get_by}
use Rattle.graphql_nodes.specs.Names.{NameText, SameName}
use Rattle.graphql_documents.specs.TypeReferences.{same_type}
use Rattle.graphql_documents.specs.Schemas.{type_definition}
use Rattle.graphql_documents.specs.Built.{IsBuilt}
use Rattle.graphql_documents.specs.Contents.{SameField}
use Rattle.graphql_documents.specs.Executables.{operations_of}
use Rattle.graphql_documents.specs.Selections.{Fragments, fragments_of, response_key}
use Rattle.graphql_specification.specs.Merging.{FieldSelection, FieldInExpandedSet, SameLeafOrBothCompositeNamed, FieldsCanMerge, SameFields, set_of, type_of, SameKey, SameResponseShape, Pass, shape_pass, field_pass}
use Rattle.graphql_specification.specs.MergedSets.{MergedSet, merged_operation, merged_below, nested_sets, ExpansionIsSeen, HasSeen, Agree, ListPasses}
use Rattle.graphql_nodes.specs.declared.nodes.Node.{Node}
use Rattle.graphql_documents.specs.declared.documents.type_references.Type.{«Type»}
use Rattle.graphql_documents.specs.declared.documents.type_references.Type.TheVariants.{Named, NonNullNamed, List', NonNullList'}
use Rattle.graphql_documents.specs.declared.documents.schemas.Schema.{Schema}
use Rattle.graphql_documents.specs.declared.documents.executables.ExecutableDocument.{ExecutableDocument}
use Rattle.graphql_documents.specs.declared.documents.executables.Operation.{Operation}
use Rattle.graphql_documents.specs.declared.documents.executables.SelectionSet.{SelectionSet}
use Rattle.graphql_nodes.proofs.NameLemmas.{same_text, same_name_back, same_name_then}
use Rattle.graphql_documents.proofs.ListLemmas.{none_stands, only_one, stands_first, stands_behind, each_standing}
use Rattle.graphql_documents.proofs.SelectionLemmas.{one_fragment_found}
use Rattle.graphql_laws.proofs.MergingLaws.{same_shape_back}
use Rattle.graphql_laws.proofs.FieldContentsLaws.{alike, same_field_then}
use Rattle.graphql_laws.proofs.ExpandedListLaws.{lists_what_is_inside, below_lists_what_is_inside, nested_of_group}
use Rattle.graphql_laws.proofs.MergedListLaws.{ParentsIn, group_has, has_group}
use Rattle.graphql_laws.proofs.FirstOfGroupLaws.{first_shape_decides, first_field_decides, one_field_back, one_field_then}
use Rattle.graphql_laws.proofs.BuiltDocumentLaws.{document_merging_by_lists, document_merging_by_groups, built_output}

-- names of one text find one type
one_type : (schema : Schema) (a b : NameText) → SameName a b → type_definition schema a ≡ type_definition schema b
one_type schema a b same = ap (λ (text : List ℕ). get_by (λ (key : NameText). bytes_eq text key.text) schema.types) (same_text a b same)

-- a type that is another as written has the shapes of that
named_alike : (schema : Schema) (a b c : NameText) → SameName a b → SameLeafOrBothCompositeNamed schema b c → SameLeafOrBothCompositeNamed schema a c
named_alike schema a b c same form x y is_x is_y = form x y (sym (one_type schema a b same) ∙ is_x) is_y

abbrev InShape : Schema → «Type» → «Type» → Type 0
InShape schema a b = (c : «Type») → SameResponseShape schema b c → SameResponseShape schema a c

shape_alike : (schema : Schema) (a b : «Type») → IsTrue (same_type a b) → InShape schema a b
shape_alike schema (Named a) (Named b) same = at_named where
  at_named : InShape schema (Named a) (Named b)
  at_named (Named c) h = named_alike schema a b c same h
  at_named _ h = absurd h
shape_alike schema (NonNullNamed a) (NonNullNamed b) same = at_named where
  at_named : InShape schema (NonNullNamed a) (NonNullNamed b)
  at_named (NonNullNamed c) h = named_alike schema a b c same h
  at_named _ h = absurd h
shape_alike schema (List' place a) (List' other b) same = at_list (shape_alike schema a b same) where
  at_list : InShape schema a b → InShape schema (List' place a) (List' other b)
  at_list inner (List' third c) h = inner c h
  at_list inner _ h = absurd h
shape_alike schema (NonNullList' place a) (NonNullList' other b) same = at_list (shape_alike schema a b same) where
  at_list : InShape schema a b → InShape schema (NonNullList' place a) (NonNullList' other b)
  at_list inner (NonNullList' third c) h = inner c h
  at_list inner _ h = absurd h
shape_alike schema _ _ same = absurd (let no : ⊥ = cc in no)

-- the same field, on a type of the same name
abbrev OneContent : FieldSelection → FieldSelection → Type 0
OneContent x y = SameName x.parent y.parent × SameField x.field.value.value y.field.value.value

in_same_fields : (xs ys : List FieldSelection) → SameFields xs ys → (x : FieldSelection) → Contains xs x → (y : FieldSelection) × Contains ys y × OneContent x y
in_same_fields [] ys all x in_x = absurd (none_stands x in_x)
in_same_fields (u ∷ us) [] all x in_x = absurd all
in_same_fields (u ∷ us) (v ∷ vs) all x in_x = elim (Contains-append_cases (u ∷ []) us x in_x) [
  | inl here ↦ (v, stands_first v vs, subst (λ z. OneContent z v) (sym (only_one u x here)) all.0)
  | inr behind ↦ let found = in_same_fields us vs all.1 x behind in (found.0, stands_behind v vs found.0 found.1, found.2)
]

module _ (schema : Schema) (fragments : Fragments) (respects : (a b : NameText) → SameName a b → fragments a ≡ fragments b) where
  content_then : (x y z : FieldSelection) → OneContent x y → OneContent y z → OneContent x z
  content_then x y z a b = (
    same_name_then x.parent y.parent z.parent a.0 b.0,
    same_field_then x.field.value.value y.field.value.value z.field.value.value a.1 b.1,
  )

  -- fields that are put together are so wherever they are the same
  key_alike : (u v x y : FieldSelection) → OneContent u x → OneContent v y → SameKey u v → SameKey x y
  key_alike u v x y first second key =
      let a = (alike fragments respects u.field.value.value x.field.value.value first.1).key in
      let b = (alike fragments respects v.field.value.value y.field.value.value second.1).key in
      let of = λ (z : FieldSelection). response_key z.field.value.value in
      same_name_then (of x) (of u) (of y) (same_name_back (of u) (of x) a) (same_name_then (of u) (of v) (of y) key b)

  parents_alike : (pass : Pass) (u v x y : FieldSelection) → OneContent u x → OneContent v y → ParentsIn schema pass u v → ParentsIn schema pass x y
  parents_alike shape_pass u v x y first second parents = tt
  parents_alike field_pass u v x y first second parents = record {
    first = parents.first;
    second = parents.second;
    first_is = sym (one_type schema u.parent x.parent first.0) ∙ parents.first_is;
    second_is = sym (one_type schema v.parent y.parent second.0) ∙ parents.second_is;
    overlap = parents.overlap;
  }

  -- and they agree where those agree
  agree_alike : (pass : Pass) (x y u v : FieldSelection) → OneContent x u → OneContent y v → Agree schema pass u v → Agree schema pass x y
  agree_alike shape_pass x y u v first second agree =
      let a = (alike fragments respects x.field.value.value u.field.value.value first.1).ty in
      let b = (alike fragments respects y.field.value.value v.field.value.value second.1).ty in
      let left : SameResponseShape schema (type_of x) (type_of v) = shape_alike schema (type_of x) (type_of u) a (type_of v) agree in
      same_shape_back schema (type_of y) (type_of x) (shape_alike schema (type_of y) (type_of v) b (type_of x) (same_shape_back schema (type_of x) (type_of v) left))
  agree_alike field_pass x y u v first second agree =
      let a = (alike fragments respects x.field.value.value u.field.value.value first.1).name_and_arguments in
      let b = (alike fragments respects y.field.value.value v.field.value.value second.1).name_and_arguments in
      one_field_then x u y a (one_field_then u v y agree (one_field_back y v b))

  module _ (operations : List (Node Operation)) (pass : Pass) (seen : List (List FieldSelection)) (walk : HasSeen schema fragments operations pass seen) where
    -- a list that was seen has both fields
    record SeenBoth (x y : FieldSelection) : Type 0 where
      known : List FieldSelection
      is_seen : Contains seen known
      x' : FieldSelection
      y' : FieldSelection
      in_x : Contains known x'
      in_y : Contains known y'
      first : OneContent x x'
      second : OneContent y y'

    in_seen : (sets : List SelectionSet) (e : ExpansionIsSeen fragments seen sets) (x y u v : FieldSelection) → OneContent x u → OneContent y v →
        Contains e.fields u → Contains e.fields v → SeenBoth x y
    in_seen sets e x y u v first second in_u in_v =
        let a = in_same_fields e.fields e.known e.same_fields u in_u in
        let b = in_same_fields e.fields e.known e.same_fields v in_v in
        record {
          known = e.known;
          is_seen = e.is_seen;
          x' = a.0;
          y' = b.0;
          in_x = a.1;
          in_y = b.1;
          first = content_then x u a.0 first a.2;
          second = content_then y v b.0 second b.2;
        }

    seen_below : (u v x y : FieldSelection) → SeenBoth u v → SameKey u v → ParentsIn schema pass u v → FieldInExpandedSet fragments (set_of u) x → FieldInExpandedSet fragments (set_of v) y → SeenBoth x y
    seen_below u v x y above key parents in_u in_v =
        let p = above.x' in
        let q = above.y' in
        let group = has_group schema pass above.known p q above.in_x above.in_y (key_alike u v p q above.first above.second key)
        (parents_alike pass u v p q above.first above.second parents) in
        let a = (alike fragments respects u.field.value.value p.field.value.value above.first.1).inside x in_u in
        let b = (alike fragments respects v.field.value.value q.field.value.value above.second.1).inside y in_v in
        let nested = λ (none : nested_sets group.0 ≡ []).
        none_stands (set_of p) (subst (λ l. Contains l (set_of p)) none (nested_of_group fragments group.0 p a.0 group.2 a.1)) in
        let e = walk.closed above.known group.0 above.is_seen group.1 nested in
        let lists = λ (z : FieldSelection). (below_lists_what_is_inside fragments respects group.0 e.fields e.expansion z).1 in
        in_seen (nested_sets group.0) e x y a.0 b.0 (a.2, a.3) (b.2, b.3) (lists a.0 (p, group.2, a.1)) (lists b.0 (q, group.3, b.1))

    seen_first : (sets : List SelectionSet) (e : ExpansionIsSeen fragments seen sets) (x y : FieldSelection) → Contains e.fields x → Contains e.fields y → SeenBoth x y
    seen_first sets e x y in_x in_y =
        let a = in_same_fields e.fields e.known e.same_fields x in_x in
        let b = in_same_fields e.fields e.known e.same_fields y in_y in
        record { known = e.known; is_seen = e.is_seen; x' = a.0; y' = b.0; in_x = a.1; in_y = b.1; first = a.2; second = b.2 }

    seen_both : {fields : List FieldSelection} → MergedSet schema fragments operations pass fields → (x y : FieldSelection) → Contains fields x → Contains fields y → SeenBoth x y
    seen_both (merged_operation {o = o} {fields = fields} stands expands) x y in_x in_y =
        let sets = o.value.value.selection_set ∷ [] in
        let e = walk.begun o stands in
        let there = λ (z : FieldSelection) (in_z : Contains fields z).
        (lists_what_is_inside fragments respects sets e.fields e.expansion z).1 ((lists_what_is_inside fragments respects sets fields expands z).0 in_z) in
        seen_first sets e x y (there x in_x) (there y in_y)
    seen_both (merged_below {fields = fields} {below = below} above step) x y in_x in_y =
        let a = (below_lists_what_is_inside fragments respects step.group below step.expansion x).0 in_x in
        let b = (below_lists_what_is_inside fragments respects step.group below step.expansion y).0 in_y in
        let outer = group_has schema pass fields step.group a.0 b.0 step.is_group a.1 b.1 in
        seen_below a.0 b.0 x y (seen_both above a.0 b.0 outer.0 outer.1) outer.2 outer.3 a.2 b.2

    -- what the lists that were seen agree on, all merged lists agree on
    all_merged_agree : ((known : List FieldSelection) → Contains seen known → (x y : FieldSelection) → Contains known x → Contains known y → SameKey x y → ParentsIn schema pass x y → Agree schema pass x y) →
        (fields : List FieldSelection) → MergedSet schema fragments operations pass fields → (x y : FieldSelection) → Contains fields x → Contains fields y → SameKey x y → ParentsIn schema pass x y → Agree schema pass x y
    all_merged_agree agree fields merged x y in_x in_y key parents =
        let s = seen_both merged x y in_x in_y in
        agree_alike pass x y s.x' s.y' s.first s.second
        (agree s.known s.is_seen s.x' s.y' s.in_x s.in_y (key_alike x y s.x' s.y' s.first s.second key) (parents_alike pass x y s.x' s.y' s.first s.second parents))

pub seen_lists_decide : (schema : Schema) (document : ExecutableDocument) → IsBuilt schema document →
    (operations : List (Node Operation)) → All (Contains (operations_of document)) operations → (shapes fields : List (List FieldSelection)) →
    HasSeen schema (fragments_of document) operations shape_pass shapes → HasSeen schema (fragments_of document) operations field_pass fields →
    ((o : Node Operation) → Contains operations o → FieldsCanMerge schema (fragments_of document) o.value.value.selection_set) ↔
    (All (ListPasses schema shape_pass) shapes × All (ListPasses schema field_pass) fields)
seen_lists_decide schema document built operations own shapes fields seen_shapes seen_fields = (all_pass, all_merge) where
  all_pass : ((o : Node Operation) → Contains operations o → FieldsCanMerge schema (fragments_of document) o.value.value.selection_set) →
      All (ListPasses schema shape_pass) shapes × All (ListPasses schema field_pass) fields
  all_pass merges =
      let agree = (document_merging_by_groups schema document built operations own).0 merges in (
        each_standing (ListPasses schema shape_pass) shapes (λ known is_seen group first rest.
            agree.0 known group first rest (All-contains (MergedSet schema (fragments_of document) operations shape_pass) shapes known seen_shapes.merged is_seen)),
        each_standing (ListPasses schema field_pass) fields (λ known is_seen group first rest.
            agree.1 known group first rest (All-contains (MergedSet schema (fragments_of document) operations field_pass) fields known seen_fields.merged is_seen)),
      )

  all_merge : All (ListPasses schema shape_pass) shapes × All (ListPasses schema field_pass) fields →
      (o : Node Operation) → Contains operations o → FieldsCanMerge schema (fragments_of document) o.value.value.selection_set
  all_merge passes =
      let fragments = fragments_of document in
      let respects = one_fragment_found document in
      let output = λ (known : List FieldSelection) (is_seen : Contains shapes known).
      built_output schema document built operations own known (All-contains (MergedSet schema fragments operations shape_pass) shapes known seen_shapes.merged is_seen) in
      (document_merging_by_lists schema document operations).1 (
        λ list merged x y in_x in_y key.
            all_merged_agree schema fragments respects operations shape_pass shapes seen_shapes
            (λ known is_seen u v in_u in_v key' parents.
            (first_shape_decides schema known (output known is_seen)).0 (All-contains (ListPasses schema shape_pass) shapes known passes.0 is_seen) u v in_u in_v key')
            list merged x y in_x in_y key tt,
        λ list merged x y in_x in_y key parents.
            all_merged_agree schema fragments respects operations field_pass fields seen_fields
            (λ known is_seen.
            (first_field_decides schema known).0 (All-contains (ListPasses schema field_pass) fields known passes.1 is_seen))
            list merged x y in_x in_y key parents,
      )
