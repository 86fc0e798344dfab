-- All fields of a group agree where its first agrees with the rest.
use Rattle.std.proofs.Common.{◌≡◌, ◌↔◌, List, [], ◌∷◌, inl, inr, refl, sym, subst, All, Contains}
use Rattle.std.specs.Prelude.{IsTrue}
use Rattle.std.proofs.lemmas.List.Elements.{All-contains, Contains-append_cases}
use Rattle.graphql_nodes.specs.Names.{NameText, SameName}
use Rattle.graphql_documents.specs.TypeReferences.{inner_named_type}
use Rattle.graphql_documents.specs.Schemas.{NamesKind, is_output_type}
use Rattle.graphql_documents.specs.Selections.{Fragments}
use Rattle.graphql_specification.specs.Merging.{FieldSelection, ParentsMayOverlap, FieldsCanMerge, type_of, SameKey, SameResponseShape, SameNameAndArguments, shape_pass, field_pass}
use Rattle.graphql_specification.specs.MergedSets.{Expansion, IsGroup, MergedSet}
use Rattle.graphql_nodes.specs.declared.nodes.Node.{Node}
use Rattle.graphql_documents.specs.declared.documents.schemas.Schema.{Schema}
use Rattle.graphql_documents.specs.declared.documents.executables.SelectionSet.{SelectionSet}
use Rattle.graphql_documents.specs.declared.documents.executables.Operation.{Operation}
use Rattle.graphql_nodes.proofs.NameLemmas.{same_name_itself, same_name_back, same_name_then}
use Rattle.graphql_documents.proofs.ListLemmas.{none_stands, only_one, stands_first, stands_behind, each_standing}
use Rattle.graphql_laws.proofs.ValueLaws.{same_arguments_itself, same_arguments_back, same_arguments_then}
use Rattle.graphql_laws.proofs.MergingLaws.{same_shape_itself, same_shape_back, same_shape_then}
use Rattle.graphql_laws.proofs.GroupLaws.{shape_groups, field_groups}
use Rattle.graphql_laws.proofs.MergedListLaws.{merging_by_lists}

-- in a list whose first agrees with the rest all agree, for what goes both ways and on
module _ {X : Type 0} (R : X → X → Type 0) where
  all_agree : (group : List X) → ((first : X) → Contains group first → R first first) →
      ((first x y : X) → Contains group first → R first x → R first y → R x y) →
      ((first : X) (rest : List X) → group ≡ first ∷ rest → All (R first) rest) → (x y : X) → Contains group x → Contains group y → R x y
  all_agree [] itself joined agree x y in_x in_y = absurd (none_stands x in_x)
  all_agree (first ∷ rest) itself joined agree x y in_x in_y =
      joined first x y (stands_first first rest) (with_first x in_x) (with_first y in_y) where
        with_first : (z : X) → Contains (first ∷ rest) z → R first z
        with_first z in_z = elim (Contains-append_cases (first ∷ []) rest z in_z) [
          | inl here ↦ subst (R first) (sym (only_one first z here)) (itself first (stands_first first rest))
          | inr behind ↦ All-contains (R first) rest z (agree first rest refl) behind
        ]

  first_agrees : (group : List X) → ((x y : X) → Contains group x → Contains group y → R x y) →
      (first : X) (rest : List X) → group ≡ first ∷ rest → All (R first) rest
  first_agrees group agree first rest is =
      each_standing (R first) rest (λ z in_z. agree first z
      (subst (λ l. Contains l first) (sym is) (stands_first first rest))
      (subst (λ l. Contains l z) (sym is) (stands_behind first rest z in_z)))

-- two fields have one shape, or ask for one thing
abbrev OneShape : Schema → FieldSelection → FieldSelection → Type 0
OneShape schema x y = SameResponseShape schema (type_of x) (type_of y)

abbrev OneField : FieldSelection → FieldSelection → Type 0
OneField x y = SameNameAndArguments x.field.value.value y.field.value.value

one_field_itself : (x : FieldSelection) → OneField x x
one_field_itself x = record { name = same_name_itself x.field.value.value.name; arguments = same_arguments_itself x.field.value.value.arguments.items }

pub one_field_back : (x y : FieldSelection) → OneField x y → OneField y x
one_field_back x y a =
    let f = x.field.value.value in
    let g = y.field.value.value in
    record { name = same_name_back f.name g.name a.name; arguments = same_arguments_back f.arguments.items g.arguments.items a.arguments }

pub one_field_then : (x y z : FieldSelection) → OneField x y → OneField y z → OneField x z
one_field_then x y z a b =
    let f = x.field.value.value in
    let g = y.field.value.value in
    let h = z.field.value.value in
    record {
      name = same_name_then f.name g.name h.name a.name b.name;
      arguments = same_arguments_then f.arguments.items g.arguments.items h.arguments.items a.arguments b.arguments;
    }

module _ (schema : Schema) (fields : List FieldSelection) where
  module _ (output : (x : FieldSelection) → Contains fields x → NamesKind schema is_output_type (inner_named_type (type_of x))) where
    has_its_shape : (x : FieldSelection) → Contains fields x → OneShape schema x x
    has_its_shape x in_x =
        let o = output x in_x in
        same_shape_itself schema (type_of x) (λ d is.
        let same : o.0 ≡ d = cc in
        subst (λ t. IsTrue (is_output_type t)) same o.2)

    one_shape_joined : (first x y : FieldSelection) → Contains fields first → OneShape schema first x → OneShape schema first y → OneShape schema x y
    one_shape_joined first x y in_first a b =
        let o = output first in_first in
        same_shape_then schema (type_of x) (type_of first) (type_of y) o.0 o.1 (same_shape_back schema (type_of first) (type_of x) a) b

    pub first_shape_decides : ((group : List FieldSelection) (first : FieldSelection) (rest : List FieldSelection) → IsGroup schema fields shape_pass group → group ≡ first ∷ rest →
        All (λ z. SameResponseShape schema (type_of first) (type_of z)) rest) ↔
        ((x y : FieldSelection) → Contains fields x → Contains fields y → SameKey x y → SameResponseShape schema (type_of x) (type_of y))
    first_shape_decides = (
      λ agree x y in_x in_y key.
          let g = (shape_groups schema fields x y).1 (in_x, in_y, key) in
          let there = λ (z : FieldSelection) (in_z : Contains g.0 z). ((shape_groups schema fields z z).0 (g.0, g.1, in_z, in_z)).0 in
          all_agree (OneShape schema) g.0 (λ z in_z. has_its_shape z (there z in_z)) (λ first u v in_first. one_shape_joined first u v (there first in_first))
          (λ first rest. agree g.0 first rest g.1) x y g.2 g.3,
      λ agree group first rest is.
          first_agrees (OneShape schema) group (λ x y in_x in_y.
          let both = (shape_groups schema fields x y).0 (group, is, in_x, in_y) in
          agree x y both.0 both.1 both.2) first rest,
    )

  pub first_field_decides : ((group : List FieldSelection) (first : FieldSelection) (rest : List FieldSelection) → IsGroup schema fields field_pass group → group ≡ first ∷ rest →
      All (λ z. SameNameAndArguments first.field.value.value z.field.value.value) rest) ↔
      ((x y : FieldSelection) → Contains fields x → Contains fields y → SameKey x y → ParentsMayOverlap schema x y →
      SameNameAndArguments x.field.value.value y.field.value.value)
  first_field_decides = (
    λ agree x y in_x in_y key parents.
        let g = (field_groups schema fields x y).1 (in_x, in_y, key, parents) in
        all_agree OneField g.0 (λ z in_z. one_field_itself z) (λ first u v in_first c. one_field_then u first v (one_field_back first u c))
        (λ first rest. agree g.0 first rest g.1) x y g.2 g.3,
    λ agree group first rest is.
        first_agrees OneField group (λ x y in_x in_y.
        let both = (field_groups schema fields x y).0 (group, is, in_x, in_y) in
        agree x y both.0 both.1 both.2 both.3) first rest,
  )

module _ (schema : Schema) (fragments : Fragments) (respects : (a b : NameText) → SameName a b → fragments a ≡ fragments b) (operations : List (Node Operation))
    (expansions : (sets : List SelectionSet) → (fields : List FieldSelection) × Expansion fragments sets fields)
    (output : (fields : List FieldSelection) → MergedSet schema fragments operations shape_pass fields → (x : FieldSelection) → Contains fields x → NamesKind schema is_output_type (inner_named_type (type_of x))) where
  pub merging_by_groups : ((o : Node Operation) → Contains operations o → FieldsCanMerge schema fragments o.value.value.selection_set) ↔ (
      ((fields group : List FieldSelection) (first : FieldSelection) (rest : List FieldSelection) → MergedSet schema fragments operations shape_pass fields →
      IsGroup schema fields shape_pass group → group ≡ first ∷ rest → All (λ z. SameResponseShape schema (type_of first) (type_of z)) rest) ×
      ((fields group : List FieldSelection) (first : FieldSelection) (rest : List FieldSelection) → MergedSet schema fragments operations field_pass fields →
      IsGroup schema fields field_pass group → group ≡ first ∷ rest → All (λ z. SameNameAndArguments first.field.value.value z.field.value.value) rest)
      )
  merging_by_groups =
      let by_lists = merging_by_lists schema fragments respects operations expansions in (
        λ merges.
            let agree = by_lists.0 merges in (
              λ fields group first rest merged. (first_shape_decides schema fields (output fields merged)).1 (agree.0 fields merged) group first rest,
              λ fields group first rest merged. (first_field_decides schema fields).1 (agree.1 fields merged) group first rest,
            ),
        λ agree. by_lists.1 (
          λ fields merged. (first_shape_decides schema fields (output fields merged)).0 (λ group first rest. agree.0 fields group first rest merged),
          λ fields merged. (first_field_decides schema fields).0 (λ group first rest. agree.1 fields group first rest merged),
        ),
      )
