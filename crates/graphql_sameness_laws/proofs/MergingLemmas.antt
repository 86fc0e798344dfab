-- Fields of operations that are the same merge as well, and the same fields are collected. Specification: 5.3.2 Field Selection Merging,
-- 6.3.2 Field Collection.
use Rattle.std.proofs.Common.{◌≡◌, ◌∙◌, List, Option, None, Some, refl, sym, ap, ap₂, subst, subst₂}
use Rattle.std.specs.Prelude.{IfSome, unwrap_or}
use Rattle.graphql_nodes.specs.Names.{NameText, SameName}
use Rattle.graphql_nodes.specs.declared.nodes.Node.{Node}
use Rattle.graphql_nodes.proofs.NameLemmas.{same_name_itself}
use Rattle.graphql_documents.proofs.ValueContentLemmas.{equality_of_values}
use Rattle.graphql_documents.specs.Directives.{argument_named}
use Rattle.graphql_documents.specs.Schemas.{IsListed, type_definition}
use Rattle.graphql_documents.specs.Selections.{Fragments, response_key, selections_of}
use Rattle.graphql_documents.specs.Values.{AreCopies, AreEntryCopies, IsCopy, copy_of_boolean, copy_of_enum, copy_of_float, copy_of_int, copy_of_list, copy_of_null, copy_of_object, copy_of_string, copy_of_variable, more_entry_copies, more_item_copies, no_entry_copies, no_item_copies}
use Rattle.graphql_documents.specs.Values as values
use Rattle.graphql_documents.specs.declared.documents.directives.Argument.{Argument}
use Rattle.graphql_documents.specs.declared.documents.executables.SelectionSet.{SelectionSet}
use Rattle.graphql_documents.specs.declared.documents.schemas.ExtendedType.{ExtendedType}
use Rattle.graphql_documents.specs.declared.documents.schemas.ExtendedType.TheVariants.{Scalar, Object, Interface, Union, Enum, InputObject}
use Rattle.graphql_documents.specs.declared.documents.schemas.InterfaceType.{InterfaceType}
use Rattle.graphql_documents.specs.declared.documents.schemas.Schema.{Schema}
use Rattle.graphql_documents.specs.declared.documents.schemas.UnionType.{UnionType}
use Rattle.graphql_documents.specs.declared.documents.values.Value.{Value}
use Rattle.graphql_laws.proofs.MeetingLaws.{merges_by_meeting}
use Rattle.graphql_laws.proofs.ValueContentsLaws.{equal_values_are_same}
use Rattle.graphql_laws.proofs.ValueLaws.{same_value_back, same_value_then}
use Rattle.graphql_specification.specs.CollectFields.{AppliesTo, CollectedFrom, applies_interface, applies_itself, applies_union, collected_here, collected_in_inline_fragment, collected_in_spread}
use Rattle.graphql_specification.specs.MergedSets.{Agree, ArePutTogether, Meet, MeetingFieldsAgree, meet_below, meet_here}
use Rattle.graphql_specification.specs.Merging.{FieldInExpandedSet, FieldSelection, FieldsCanMerge, ParentsMayOverlap, Pass, SameArguments, SameKey, SameNameAndArguments, field_pass, set_of, shape_pass, type_of}
use Rattle.graphql_document_building.specs.SameLeaves as same
use Rattle.graphql_document_building.specs.SameLeaves.{SameArgument, SameContents, SameFields, SameItems, next_field, next_item, no_fields, no_items, same_boolean, same_enum, same_float, same_int, same_list, same_null, same_object, same_string, same_variable}
use Rattle.graphql_building_laws.specs.SameSchemas.{SameInterface, SameSchema, SameType, SameUnion}
use Rattle.graphql_sameness_laws.proofs.FragmentLemmas.{fragments_back}
use Rattle.graphql_sameness_laws.proofs.LeafLemmas.{argument_back}
use Rattle.graphql_sameness_laws.proofs.NamedLemmas.{argument_alike}
use Rattle.graphql_sameness_laws.proofs.PossibleTypeLemmas.{as_same_object}
use Rattle.graphql_sameness_laws.proofs.ReachLemmas.{fragment_too, included_too}
use Rattle.graphql_sameness_laws.proofs.SchemaLookupLemmas.{type_too}
use Rattle.graphql_sameness_laws.proofs.SchemaSamenessLemmas.{schema_back}
use Rattle.graphql_sameness_laws.proofs.SelectionLemmas.{SameFieldNode, SameFragments, SameSet, field_node_back, field_too, fragment_set, inline_fragment_too, set_back, spread_too}
use Rattle.graphql_sameness_laws.proofs.ShapeLemmas.{overlap_too, shape_too}
use Rattle.graphql_sameness_laws.proofs.ZipLemmas.{other_side, some_alike, zip_back}

-- ==== values

mutual
  copy : {v w : Value} → SameContents v w → IsCopy v w
  copy same_null = copy_of_null
  copy (same_enum {name}) = copy_of_enum (same_name_itself name)
  copy (same_variable {name}) = copy_of_variable (same_name_itself name)
  copy (same_string a b e) = copy_of_string a b e
  copy same_float = copy_of_float refl
  copy same_int = copy_of_int refl
  copy same_boolean = copy_of_boolean
  copy (same_list xs ys items) = copy_of_list xs ys (copies items)
  copy (same_object xs ys entries) = copy_of_object xs ys (entry_copies entries)

  copies : {xs ys : List (Node Value)} → SameItems xs ys → AreCopies xs ys
  copies no_items = no_item_copies
  copies (next_item first at rest) = more_item_copies (copy first) (copies rest)

  entry_copies : {xs ys : List (NameText × Node Value)} → SameFields xs ys → AreEntryCopies xs ys
  entry_copies no_fields = no_entry_copies
  entry_copies (next_field {x = x} {y = y} named first at rest) =
      more_entry_copies (subst (SameName x.0) named (same_name_itself x.0)) (copy first) (entry_copies rest)

as_compared : (v w : Value) → SameContents v w → values.SameValue v w
as_compared v w contents = equal_values_are_same v w ((equality_of_values v w).1 (copy contents))

compared_too : (v w x y : Value) → SameContents v x → SameContents w y → values.SameValue v w → values.SameValue x y
compared_too v w x y left right h =
    same_value_then x v y (same_value_back v x (as_compared v x left)) (same_value_then v w y h (as_compared w y right))

-- ==== fields

pub record SameFieldSelection (x y : FieldSelection) : Type 0 where
  pub parent : x.parent ≡ y.parent
  pub field : SameFieldNode x.field y.field

field_selection_back : (x y : FieldSelection) → SameFieldSelection x y → SameFieldSelection y x
field_selection_back x y p = record { parent = sym p.parent; field = field_node_back x.field y.field p.field }

pub one_key : (x y : FieldSelection) → SameFieldSelection x y → response_key x.field.value.value ≡ response_key y.field.value.value
one_key x y p = ap₂ unwrap_or p.field.head.alias p.field.head.name

key_too : (x y u v : FieldSelection) → SameFieldSelection x u → SameFieldSelection y v → SameKey x y → SameKey u v
key_too x y u v left right = subst₂ SameName (one_key x u left) (one_key y v right)

arguments_too : (xs ys us vs : List (Node Argument)) → same.SameArguments xs us → same.SameArguments ys vs → SameArguments xs ys → SameArguments us vs
arguments_too xs ys us vs left right h = record {
  names = λ name. sym (some_alike SameArgument _ _ (argument_alike name xs us left)) ∙ h.names name ∙ some_alike SameArgument _ _ (argument_alike name ys vs right);
  values = λ name u v first second.
      let x = other_side SameArgument (argument_named name us) (argument_named name xs) u
      (argument_alike name us xs (zip_back SameArgument SameArgument argument_back xs us left)) first in
      let y = other_side SameArgument (argument_named name vs) (argument_named name ys) v
      (argument_alike name vs ys (zip_back SameArgument SameArgument argument_back ys vs right)) second in
      compared_too _ _ _ _ (argument_back u x.0 x.2).value.contents (argument_back v y.0 y.2).value.contents (h.values name x.0 y.0 x.1 y.1);
}

name_and_arguments_too : (x y u v : FieldSelection) → SameFieldSelection x u → SameFieldSelection y v →
    SameNameAndArguments x.field.value.value y.field.value.value → SameNameAndArguments u.field.value.value v.field.value.value
name_and_arguments_too x y u v left right h = record {
  name = subst₂ SameName left.field.head.name right.field.head.name h.name;
  arguments = arguments_too _ _ _ _ left.field.head.arguments right.field.head.arguments h.arguments;
}

module _ (a b : Schema) (schemas : SameSchema a b) where
  parents_too : (x y u v : FieldSelection) → SameFieldSelection x u → SameFieldSelection y v → ParentsMayOverlap a x y → ParentsMayOverlap b u v
  parents_too x y u v left right h =
      let s = type_too a b schemas x.parent h.first h.first_is in
      let t = type_too a b schemas y.parent h.second h.second_is in
      record {
        first = s.0;
        second = t.0;
        first_is = subst (λ n. type_definition b n ≡ Some s.0) left.parent s.1;
        second_is = subst (λ n. type_definition b n ≡ Some t.0) right.parent t.1;
        overlap = overlap_too h.first h.second s.0 t.0 s.2 t.2 h.overlap;
      }

  together_too : (pass : Pass) (x y u v : FieldSelection) → SameFieldSelection x u → SameFieldSelection y v → ArePutTogether a pass x y → ArePutTogether b pass u v
  together_too shape_pass x y u v left right h = key_too x y u v left right h
  together_too field_pass x y u v left right h = (key_too x y u v left right h.0, parents_too x y u v left right h.1)

  agree_too : (pass : Pass) (x y u v : FieldSelection) → SameFieldSelection x u → SameFieldSelection y v → Agree a pass x y → Agree b pass u v
  agree_too shape_pass x y u v left right h =
      shape_too a b schemas (type_of x) (type_of y) (type_of u) (type_of v) left.field.head.definition.ty right.field.head.definition.ty h
  agree_too field_pass x y u v left right h = name_and_arguments_too x y u v left right h

-- ==== fields inside sets, and fields that meet

pub field_inside_too : (before after : Fragments) → SameFragments before after → (set other : SelectionSet) → SameSet set other →
    (x : FieldSelection) → FieldInExpandedSet before set x → (y : FieldSelection) × FieldInExpandedSet after other y × SameFieldSelection x y
field_inside_too before after alike set other same x h =
    let inner = included_too before after alike h.included other same in
    let g = field_too (selections_of h.inner) (selections_of inner.0) inner.2.selections x.field h.stands in (
      record { parent = inner.0.ty; field = g.0 },
      record { inner = inner.0; included = inner.1; stands = g.1; parent_is = refl },
      record { parent = h.parent_is ∙ inner.2.ty; field = g.2 },
    )

module _ (a b : Schema) (schemas : SameSchema a b) (before after : Fragments) (alike : SameFragments before after) where
  meet_too : {pass : Pass} {s t : SelectionSet} {x y : FieldSelection} → Meet a before pass s t x y → (p q : SelectionSet) → SameSet s p → SameSet t q →
      (u : FieldSelection) × (v : FieldSelection) × Meet b after pass p q u v × SameFieldSelection x u × SameFieldSelection y v
  meet_too {pass} (meet_here {s = s} {t = t} {x = x} {y = y} first second put) p q left right =
      let u = field_inside_too before after alike s p left x first in
      let v = field_inside_too before after alike t q right y second in
      (u.0, v.0, meet_here u.1 v.1 (together_too a b schemas pass x y u.0 v.0 u.2 v.2 put), u.2, v.2)
  meet_too {pass} (meet_below {s = s} {t = t} k l {x = x} {y = y} first second put below) p q left right =
      let m = field_inside_too before after alike s p left k first in
      let n = field_inside_too before after alike t q right l second in
      let deep = meet_too below (set_of m.0) (set_of n.0) m.2.field.set n.2.field.set in
      (deep.0, deep.1, meet_below m.0 n.0 m.1 n.1 (together_too a b schemas pass k l m.0 n.0 m.2 n.2 put) deep.2, deep.3, deep.4)

module _ (a b : Schema) (schemas : SameSchema a b) (before after : Fragments) (alike : SameFragments before after) where
  meeting_too : (set other : SelectionSet) → SameSet set other → MeetingFieldsAgree a before set → MeetingFieldsAgree b after other
  meeting_too set other same agree pass u v meet =
      let found = meet_too b a (schema_back a b schemas) after before (fragments_back before after alike) meet set set (set_back same) (set_back same) in
      agree_too a b schemas pass found.0 found.1 u v (field_selection_back u found.0 found.3) (field_selection_back v found.1 found.4)
      (agree pass found.0 found.1 found.2)

  pub fields_merge_too : (set other : SelectionSet) → SameSet set other → FieldsCanMerge a before set → FieldsCanMerge b after other
  fields_merge_too set other same h =
      (merges_by_meeting b after other).1 (meeting_too set other same ((merges_by_meeting a before set).0 h))

-- ==== collected fields

pub as_same_interface : (d : Node InterfaceType) (y : ExtendedType) → SameType (Interface d) y → (e : Node InterfaceType) × (y ≡ Interface e) × SameInterface d e
as_same_interface d (Interface e) same = (e, refl, same)
as_same_interface d (Scalar e) same = absurd same
as_same_interface d (Object e) same = absurd same
as_same_interface d (Union e) same = absurd same
as_same_interface d (Enum e) same = absurd same
as_same_interface d (InputObject e) same = absurd same

as_same_union : (d : Node UnionType) (y : ExtendedType) → SameType (Union d) y → (e : Node UnionType) × (y ≡ Union e) × SameUnion d e
as_same_union d (Union e) same = (e, refl, same)
as_same_union d (Scalar e) same = absurd same
as_same_union d (Object e) same = absurd same
as_same_union d (Interface e) same = absurd same
as_same_union d (Enum e) same = absurd same
as_same_union d (InputObject e) same = absurd same

if_some_too : (P Q : NameText → Type 0) → ((n : NameText) → P n → Q n) → (o p : Option NameText) → o ≡ p → IfSome o P → IfSome p Q
if_some_too P Q one o p is h = subst (λ p. IfSome p Q) is (weaker o h)
  where
    weaker : (o : Option NameText) → IfSome o P → IfSome o Q
    weaker None h = tt
    weaker (Some n) h = one n h

module _ (a b : Schema) (schemas : SameSchema a b) (object : NameText) where
  applies_too : (ty : NameText) → AppliesTo a object ty → AppliesTo b object ty
  applies_too ty (applies_itself named) = applies_itself named
  applies_too ty (applies_interface {d = d} {i = i} first second listed) =
      let x = type_too a b schemas object (Object d) first in
      let y = type_too a b schemas ty (Interface i) second in
      let e = as_same_object d x.0 x.2 in
      let j = as_same_interface i y.0 y.2 in
      applies_interface (x.1 ∙ ap Some e.1) (y.1 ∙ ap Some j.1) (subst (IsListed ty) e.2.implements_interfaces listed)
  applies_too ty (applies_union {d = d} {u = u} first second listed) =
      let x = type_too a b schemas object (Object d) first in
      let y = type_too a b schemas ty (Union u) second in
      let e = as_same_object d x.0 x.2 in
      let v = as_same_union u y.0 y.2 in
      applies_union (x.1 ∙ ap Some e.1) (y.1 ∙ ap Some v.1) (subst (IsListed object) v.2.members listed)

  applies_at : (ty other : NameText) → ty ≡ other → AppliesTo a object ty → AppliesTo b object other
  applies_at ty other is h = subst (AppliesTo b object) is (applies_too ty h)

  module _ (before after : Fragments) (alike : SameFragments before after) where
    pub collected_too : {set : SelectionSet} {x : FieldSelection} → CollectedFrom a before object set x → (other : SelectionSet) → SameSet set other →
        (y : FieldSelection) × CollectedFrom b after object other y × SameFieldSelection x y
    collected_too (collected_here {set = set} {x = x} applies stands is) other same =
        let g = field_too (selections_of set) (selections_of other) same.selections x.field stands in (
          record { parent = other.ty; field = g.0 },
          collected_here (applies_at set.ty other.ty same.ty applies) g.1 refl,
          record { parent = is ∙ same.ty; field = g.2 },
        )
    collected_too (collected_in_inline_fragment {set = set} {x = x} {i = i} applies stands condition inner) other same =
        let j = inline_fragment_too (selections_of set) (selections_of other) same.selections i stands in
        let deep = collected_too inner j.0.value.value.selection_set j.2.set in (
          deep.0,
          collected_in_inline_fragment (applies_at set.ty other.ty same.ty applies) j.1
              (if_some_too (AppliesTo a object) (AppliesTo b object) applies_too _ _ j.2.head.type_condition condition) deep.1,
          deep.2,
        )
    collected_too (collected_in_spread {set = set} {x = x} {p = p} {d = d} applies stands defined inner) other same =
        let q = spread_too (selections_of set) (selections_of other) same.selections p stands in
        let e = fragment_too before after alike p.value.value.fragment_name q.0.value.value.fragment_name d q.2.name defined in
        let deep = collected_too inner e.0.value.value.selection_set (fragment_set d e.0 e.2) in
        (deep.0, collected_in_spread (applies_at set.ty other.ty same.ty applies) q.1 e.1 deep.1, deep.2)
