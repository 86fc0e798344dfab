-- Fields that merge still do against a schema that keeps shapes and object types. Specification: 5.3.2 Field Selection Merging.
use Rattle.std.proofs.Common.{◌≡◌, ◌∙◌, List, [], Some, Ok, refl, sym, ap₂, subst, subst₂, true}
use Rattle.std.specs.Prelude.{◌≢◌, IsTrue, unwrap_or}
use Rattle.std.proofs.lemmas.List.Elements.{All-contains}
use Rattle.graphql_nodes.specs.Names.{NameText, SameName, same_name}
use Rattle.graphql_nodes.proofs.NameLemmas.{same_name_back, same_name_itself, same_name_then}
use Rattle.graphql_nodes.specs.declared.nodes.Node.{Node}
use Rattle.graphql_documents.specs.Built.{StandsUnderOwnNames, TypeStandsUnderItsName}
use Rattle.graphql_documents.specs.Schemas.{is_composite, is_object_type, own_name, type_definition, type_field}
use Rattle.graphql_documents.specs.Selections.{Fragments, response_key, selections_of}
use Rattle.graphql_documents.specs.declared.documents.definitions.FieldDefinition.{FieldDefinition}
use Rattle.graphql_documents.specs.declared.documents.definitions.VariableDefinition.{VariableDefinition}
use Rattle.graphql_documents.specs.declared.documents.executables.Selection.TheVariants as kind
use Rattle.graphql_documents.specs.declared.documents.executables.SelectionSet.{SelectionSet}
use Rattle.graphql_documents.specs.declared.documents.schemas.ExtendedType.{ExtendedType}
use Rattle.graphql_documents.specs.declared.documents.schemas.ExtendedType.TheVariants.{Scalar, Object, Interface, Union, Enum, InputObject}
use Rattle.graphql_documents.specs.declared.documents.schemas.Schema.{Schema}
use Rattle.graphql_laws.proofs.MeetingLaws.{merges_by_meeting}
use Rattle.graphql_specification.specs.Fragments.{NamesComposite}
use Rattle.graphql_specification.specs.MergedSets.{Agree, ArePutTogether, Meet, meet_below, meet_here}
use Rattle.graphql_specification.specs.Merging.{FieldInExpandedSet, FieldSelection, FieldsCanMerge, MayOverlap, ParentsMayOverlap, Pass, SameResponseShape, field_pass, set_of, shape_pass, type_of}
use Rattle.graphql_schema_changes.specs.Keeps.{AnyPlaces, KeepsMerging}
use Rattle.graphql_kept_rules.proofs.FoundLemmas.{entry_in, one_some}
use Rattle.graphql_kept_rules.proofs.MergedArgumentLemmas.{arguments_too}
use Rattle.graphql_kept_rules.proofs.NameLemmas.{one_field, one_type}
use Rattle.graphql_kept_rules.proofs.PairedDocumentLemmas.{PairedFragments}
use Rattle.graphql_kept_rules.proofs.PairedLemmas.{Defined, PairedField, defined}
use Rattle.graphql_kept_rules.proofs.SaidTextLemmas.{head_alike}
use Rattle.graphql_kept_rules.proofs.SchemasKeptLemmas.{SchemasKept}
use Rattle.graphql_kept_rules.proofs.SpotLemmas.{Spot, included_spot, some_included, spot_field}
use Rattle.graphql_kept_rules.specs.SameTexts.{SameFieldText}

-- ==== own names

pub own_name_is : (schema : Schema) → StandsUnderOwnNames schema → (name : NameText) (d : ExtendedType) → type_definition schema name ≡ Some d → SameName name (own_name d)
own_name_is schema names name d is =
    let here = entry_in (same_name name) schema.types.entries d is in
    let stands = All-contains (λ entry. TypeStandsUnderItsName entry.0 entry.1) schema.types.entries (here.0, d) names.types here.1 in
    same_name_then name here.0 (own_name d) here.2 stands.itself

-- ==== overlap

overlap_of : (a b : ExtendedType) → IsTrue (is_composite a) → IsTrue (is_composite b) → (IsTrue (is_object_type a) → IsTrue (is_object_type b) → MayOverlap a b) → MayOverlap a b
overlap_of (Object a) (Object b) p q h = h refl refl
overlap_of (Object a) (Interface b) p q h = (refl, refl)
overlap_of (Object a) (Union b) p q h = (refl, refl)
overlap_of (Interface a) (Object b) p q h = (refl, refl)
overlap_of (Interface a) (Interface b) p q h = (refl, refl)
overlap_of (Interface a) (Union b) p q h = (refl, refl)
overlap_of (Union a) (Object b) p q h = (refl, refl)
overlap_of (Union a) (Interface b) p q h = (refl, refl)
overlap_of (Union a) (Union b) p q h = (refl, refl)
overlap_of (Scalar a) b p q h = absurd (let no : ⊥ = cc in no)
overlap_of (Enum a) b p q h = absurd (let no : ⊥ = cc in no)
overlap_of (InputObject a) b p q h = absurd (let no : ⊥ = cc in no)
overlap_of (Object a) (Scalar b) p q h = absurd (let no : ⊥ = cc in no)
overlap_of (Object a) (Enum b) p q h = absurd (let no : ⊥ = cc in no)
overlap_of (Object a) (InputObject b) p q h = absurd (let no : ⊥ = cc in no)
overlap_of (Interface a) (Scalar b) p q h = absurd (let no : ⊥ = cc in no)
overlap_of (Interface a) (Enum b) p q h = absurd (let no : ⊥ = cc in no)
overlap_of (Interface a) (InputObject b) p q h = absurd (let no : ⊥ = cc in no)
overlap_of (Union a) (Scalar b) p q h = absurd (let no : ⊥ = cc in no)
overlap_of (Union a) (Enum b) p q h = absurd (let no : ⊥ = cc in no)
overlap_of (Union a) (InputObject b) p q h = absurd (let no : ⊥ = cc in no)

-- two object types overlap if they have one name
one_name_of : (a b : ExtendedType) → IsTrue (is_object_type a) → IsTrue (is_object_type b) → MayOverlap a b → SameName (own_name a) (own_name b)
one_name_of (Object a) (Object b) p q h = h
one_name_of (Object a) (Scalar b) p q h = absurd (let no : ⊥ = cc in no)
one_name_of (Object a) (Interface b) p q h = absurd (let no : ⊥ = cc in no)
one_name_of (Object a) (Union b) p q h = absurd (let no : ⊥ = cc in no)
one_name_of (Object a) (Enum b) p q h = absurd (let no : ⊥ = cc in no)
one_name_of (Object a) (InputObject b) p q h = absurd (let no : ⊥ = cc in no)
one_name_of (Scalar a) b p q h = absurd (let no : ⊥ = cc in no)
one_name_of (Interface a) b p q h = absurd (let no : ⊥ = cc in no)
one_name_of (Union a) b p q h = absurd (let no : ⊥ = cc in no)
one_name_of (Enum a) b p q h = absurd (let no : ⊥ = cc in no)
one_name_of (InputObject a) b p q h = absurd (let no : ⊥ = cc in no)

with_itself : (a : ExtendedType) → IsTrue (is_object_type a) → MayOverlap a a
with_itself (Object a) p = same_name_itself a.value.value.name
with_itself (Scalar a) p = absurd (let no : ⊥ = cc in no)
with_itself (Interface a) p = absurd (let no : ⊥ = cc in no)
with_itself (Union a) p = absurd (let no : ⊥ = cc in no)
with_itself (Enum a) p = absurd (let no : ⊥ = cc in no)
with_itself (InputObject a) p = absurd (let no : ⊥ = cc in no)

module _ (old new : Schema) (k : SchemasKept old new) (names : StandsUnderOwnNames new) (merging : KeepsMerging old new (NamesComposite old) (AnyPlaces old))
    (before after : Fragments) (fragments : PairedFragments old new k.keeps before after) (variables : List (Node VariableDefinition)) where
  abbrev Here : SelectionSet → SelectionSet → Type 0
  Here a b = Spot old new k.keeps k.outputs before after fragments variables a b

  -- two types that overlap did before
  overlap_before : (p q u v : NameText) → SameName p u → SameName q v → NamesComposite old p → NamesComposite old q → (x y : ExtendedType) →
      type_definition new u ≡ Some x → type_definition new v ≡ Some y → MayOverlap x y → (a b : ExtendedType) → type_definition old p ≡ Some a → type_definition old q ≡ Some b →
      IsTrue (is_object_type a) → IsTrue (is_object_type b) → MayOverlap a b
  overlap_before p q u v pu qv composite other x y x_is y_is overlap a b a_is b_is a_object b_object =
      let c = merging.objects p composite (a, a_is, a_object) in
      let d = merging.objects q other (b, b_is, b_object) in
      let is_x : c.0 ≡ x = one_some (type_definition new u) c.0 x (sym (one_type new p u pu) ∙ c.1) x_is in
      let is_y : d.0 ≡ y = one_some (type_definition new v) d.0 y (sym (one_type new q v qv) ∙ d.1) y_is in
      let named = one_name_of x y (subst (λ t. IsTrue (is_object_type t)) is_x c.2) (subst (λ t. IsTrue (is_object_type t)) is_y d.2) overlap in
      let uv : SameName u v = same_name_then u (own_name y) v (same_name_then u (own_name x) (own_name y) (own_name_is new names u x x_is) named)
      (same_name_back v (own_name y) (own_name_is new names v y y_is)) in
      let pq : SameName p q = same_name_then p v q (same_name_then p u v pu uv) (same_name_back q v qv) in
      let one : a ≡ b = one_some (type_definition old q) a b (sym (one_type old p q pq) ∙ a_is) b_is in
      subst (MayOverlap a) one (with_itself a a_object)

  -- ==== a field in both documents

  pub record PairedSelection (x y : FieldSelection) : Type 0 where
    pub a : SelectionSet
    pub b : SelectionSet
    pub spot : Here a b
    pub pair : PairedField old new k.keeps.fields a b spot.pair x.field y.field
    pub was_on : x.parent ≡ a.ty
    pub is_on : y.parent ≡ b.ty
    pub below : selections_of (set_of y) ≢ [] → Here (set_of x) (set_of y)

  text_of : (x y : FieldSelection) → PairedSelection x y → SameFieldText x.field.value.value y.field.value.value
  text_of x y p = head_alike old new p.a.ty p.b.ty p.pair.x x.field.value.value y.field.value.value p.pair.before p.pair.after

  pub one_key : (x y : FieldSelection) → PairedSelection x y → response_key x.field.value.value ≡ response_key y.field.value.value
  one_key x y p = ap₂ unwrap_or (text_of x y p).alias (text_of x y p).name

  -- ==== put together, and in agreement

  parents_before : (x y u v : FieldSelection) → PairedSelection u x → PairedSelection v y → ParentsMayOverlap new x y → ParentsMayOverlap old u v
  parents_before x y u v left right h =
      let pu : SameName u.parent x.parent = subst₂ SameName (sym left.was_on) (sym left.is_on) left.spot.pair.ty in
      let qv : SameName v.parent y.parent = subst₂ SameName (sym right.was_on) (sym right.is_on) right.spot.pair.ty in
      let composite : NamesComposite old u.parent = subst (NamesComposite old) (sym left.was_on) left.spot.composite in
      let other : NamesComposite old v.parent = subst (NamesComposite old) (sym right.was_on) right.spot.composite in
      record {
        first = composite.0;
        second = other.0;
        first_is = composite.1;
        second_is = other.1;
        overlap = overlap_of composite.0 other.0 composite.2 other.2
            (overlap_before u.parent v.parent x.parent y.parent pu qv composite other h.first h.second h.first_is h.second_is h.overlap composite.0 other.0 composite.1 other.1);
      }

  together_before : (pass : Pass) (x y u v : FieldSelection) → PairedSelection u x → PairedSelection v y → ArePutTogether new pass x y → ArePutTogether old pass u v
  together_before shape_pass x y u v left right h = subst₂ SameName (sym (one_key u x left)) (sym (one_key v y right)) h
  together_before field_pass x y u v left right h =
      (subst₂ SameName (sym (one_key u x left)) (sym (one_key v y right)) h.0, parents_before x y u v left right h.1)

  -- a field of the old type in the new schema
  is_on_old : (x y : FieldSelection) (p : PairedSelection x y) (is : Defined old new k.keeps.fields p.a p.b p.spot.pair x.field y.field) →
      type_field new p.a.ty x.field.value.value.name ≡ Ok is.e
  is_on_old x y p is =
      subst (λ n. type_field new p.a.ty n ≡ Ok is.e) (sym (text_of x y p).name) (one_field new y.field.value.value.name p.a.ty p.b.ty p.spot.pair.ty ∙ is.is)

  shape_still : (x y u v : FieldSelection) (left : PairedSelection u x) (right : PairedSelection v y) →
      Defined old new k.keeps.fields left.a left.b left.spot.pair u.field x.field → Defined old new k.keeps.fields right.a right.b right.spot.pair v.field y.field →
      SameResponseShape old (type_of u) (type_of v) → SameResponseShape new (type_of x) (type_of y)
  shape_still x y u v left right is too h =
      subst₂ (λ (s t : FieldDefinition). SameResponseShape new s.ty t.ty) (sym is.is_built) (sym too.is_built)
      (merging.shapes true left.a.ty right.a.ty (left.spot.composite, right.spot.composite) u.field.value.value.name v.field.value.value.name is.d too.d is.e too.e
      is.was too.was (is_on_old u x left is) (is_on_old v y right too)
      (subst₂ (λ (s t : FieldDefinition). SameResponseShape old s.ty t.ty) is.was_built too.was_built h))

  agree_still : (pass : Pass) (x y u v : FieldSelection) → PairedSelection u x → PairedSelection v y → Agree old pass u v → Agree new pass x y
  agree_still shape_pass x y u v left right h =
      shape_still x y u v left right (defined old new k.keeps.fields left.a left.b left.spot.pair u.field x.field left.pair)
      (defined old new k.keeps.fields right.a right.b right.spot.pair v.field y.field right.pair) h
  agree_still field_pass x y u v left right h = record {
    name = subst₂ SameName (text_of u x left).name (text_of v y right).name h.name;
    arguments = arguments_too _ _ _ _ (text_of u x left).arguments (text_of v y right).arguments h.arguments;
  }

  -- ==== fields that meet

  field_before : (b : SelectionSet) (y : FieldSelection) → FieldInExpandedSet after b y → (a : SelectionSet) → Here a b →
      (x : FieldSelection) × FieldInExpandedSet before a x × PairedSelection x y
  field_before b y h a spot =
      let here = included_spot old new k.keeps k.outputs before after fragments variables h.included a spot in
      let field = spot_field old new k.keeps k.outputs before after fragments variables here.within h.inner here.spot y.field h.stands in (
        record { parent = here.within.ty; field = field.f },
        record { inner = here.within; included = here.includes; stands = field.stands; parent_is = refl },
        record { a = here.within; b = h.inner; spot = here.spot; pair = field.pair; was_on = refl; is_on = h.parent_is; below = field.below },
      )

  some_meet : {pass : Pass} {s t : SelectionSet} {x y : FieldSelection} → Meet new after pass s t x y → (selections_of s ≢ []) × (selections_of t ≢ [])
  some_meet (meet_here {x = x} {y = y} first second put) =
      (some_included (kind.Field x.field) first.included first.stands, some_included (kind.Field y.field) second.included second.stands)
  some_meet (meet_below u v first second put below) =
      (some_included (kind.Field u.field) first.included first.stands, some_included (kind.Field v.field) second.included second.stands)

  meet_before : {pass : Pass} {s t : SelectionSet} {x y : FieldSelection} → Meet new after pass s t x y → (p q : SelectionSet) → Here p s → Here q t →
      (u : FieldSelection) × (v : FieldSelection) × Meet old before pass p q u v × PairedSelection u x × PairedSelection v y
  meet_before {pass} (meet_here {s = s} {t = t} {x = x} {y = y} first second put) p q left right =
      let u = field_before s x first p left in
      let v = field_before t y second q right in
      (u.0, v.0, meet_here u.1 v.1 (together_before pass x y u.0 v.0 u.2 v.2 put), u.2, v.2)
  meet_before {pass} (meet_below {s = s} {t = t} m n {x = x} {y = y} first second put below) p q left right =
      let u = field_before s m first p left in
      let v = field_before t n second q right in
      let some = some_meet below in
      let deep = meet_before below (set_of u.0) (set_of v.0) (u.2.below some.0) (v.2.below some.1) in
      (deep.0, deep.1, meet_below u.0 v.0 u.1 v.1 (together_before pass m n u.0 v.0 u.2 v.2 put) deep.2, deep.3, deep.4)

  pub fields_merge_still : (a b : SelectionSet) → Here a b → FieldsCanMerge old before a → FieldsCanMerge new after b
  fields_merge_still a b spot h =
      (merges_by_meeting new after b).1 (λ pass x y meet.
      let found = meet_before meet a a spot spot in
      agree_still pass x y found.0 found.1 found.3 found.4 ((merges_by_meeting old before a).0 h pass found.0 found.1 found.2))
