-- What the equality of shapes compares, and when types of one form have one shape in a response. Specification: 5.3.2 Field Selection
-- Merging, SameResponseShape.
use Rattle.std.proofs.Common.{◌≡◌, ◌∙◌, ◌⊎◌, inl, inr, Bool, true, false, cond, List, ℕ, Some, None, arith, refl, sym, ap, subst}
use Rattle.std.specs.Prelude.{IsTrue, Option, IsSomeAnd, IfSome, IsSome, IsNone}
use Rattle.std.specs.Str.{bytes_eq}
use Rattle.std.proofs.lemmas.Option.{same_Some}
use Rattle.std.proofs.lemmas.Slice.Eq.{bytes_eq-Decides}
use Rattle.graphql_nodes.specs.Names.{NameText, SameName}
use Rattle.graphql_nodes.proofs.NameLemmas.{from_same_text, same_name_back, same_name_itself, same_name_then, same_text}
use Rattle.graphql_documents.specs.Built.{StandsUnderOwnNames}
use Rattle.graphql_documents.specs.Schemas.{NamesKind, is_composite, is_output_type, type_definition}
use Rattle.graphql_documents.specs.TypeReferences.{inner_named_type, same_type}
use Rattle.graphql_documents.specs.declared.documents.schemas.ExtendedType.{ExtendedType}
use Rattle.graphql_documents.specs.declared.documents.schemas.ExtendedType.TheVariants.{Scalar, Object, Interface, Union, Enum}
use Rattle.graphql_documents.specs.declared.documents.schemas.Schema.{Schema}
use Rattle.graphql_documents.specs.declared.documents.type_references.Type.{«Type»}
use Rattle.graphql_documents.specs.declared.documents.type_references.Type.TheVariants.{Named, NonNullNamed, List', NonNullList'}
use Rattle.graphql_specification.specs.Merging.{SameLeafOrBothComposite, SameLeafOrBothCompositeNamed, SameResponseShape}
use Rattle.graphql_document_building.specs.Trees.{is_leaf_type, names_leaf_type}
use Rattle.graphql_change_kinds.specs.Forms.{Form, composite, form_in, leaf, list, non_null_composite, non_null_leaf, non_null_list}
use Rattle.graphql_shape_comparison.specs.Shapes.{Knows, KnowsNoOther, ShapeTable, form_of, meeting_at}
use Rattle.graphql_shape_comparison.specs.declared.meetings.Meeting.{Meeting}
use Rattle.graphql_shape_comparison.specs.declared.shapes.Shape.{Shape}
use Rattle.graphql_shape_comparison.specs.declared.shapes.Shape.TheVariants as shape
use Rattle.graphql_shape_comparison.specs.contracts.shapes.ShapePartialEq.TheImpl as shape_impl
use Rattle.graphql_shape_comparison.specs.contracts.shapes.ShapePartialEq.TheImpl.Laws as shape_laws
use Rattle.graphql_change_kinds.proofs.FindsLemmas.{looked_up_alike}
use Rattle.graphql_shape_comparison.proofs.NamedLemmas.{one_type, own_name_is}

-- ==== shapes

abbrev pub equal_shapes : Shape → Shape → Bool
equal_shapes = shape_impl.ghosts.eq

abbrev same_form : Form → Form → Bool
same_form (leaf a) (leaf b) = bytes_eq a b
same_form (non_null_leaf a) (non_null_leaf b) = bytes_eq a b
same_form composite composite = true
same_form non_null_composite non_null_composite = true
same_form (list a) (list b) = same_form a b
same_form (non_null_list a) (non_null_list b) = same_form a b
same_form _ _ = false

shapes_are : (a b : Shape) → equal_shapes a b ≡ same_form (form_of a) (form_of b)
shapes_are (shape.Leaf a) (shape.Leaf b) = shape_laws.is (shape.Leaf a) (shape.Leaf b)
shapes_are (shape.Leaf a) (shape.NonNullLeaf b) = shape_laws.is (shape.Leaf a) (shape.NonNullLeaf b)
shapes_are (shape.Leaf a) shape.Composite = shape_laws.is (shape.Leaf a) shape.Composite
shapes_are (shape.Leaf a) shape.NonNullComposite = shape_laws.is (shape.Leaf a) shape.NonNullComposite
shapes_are (shape.Leaf a) (shape.List' other b) = shape_laws.is (shape.Leaf a) (shape.List' other b)
shapes_are (shape.Leaf a) (shape.NonNullList' other b) = shape_laws.is (shape.Leaf a) (shape.NonNullList' other b)
shapes_are (shape.NonNullLeaf a) (shape.Leaf b) = shape_laws.is (shape.NonNullLeaf a) (shape.Leaf b)
shapes_are (shape.NonNullLeaf a) (shape.NonNullLeaf b) = shape_laws.is (shape.NonNullLeaf a) (shape.NonNullLeaf b)
shapes_are (shape.NonNullLeaf a) shape.Composite = shape_laws.is (shape.NonNullLeaf a) shape.Composite
shapes_are (shape.NonNullLeaf a) shape.NonNullComposite = shape_laws.is (shape.NonNullLeaf a) shape.NonNullComposite
shapes_are (shape.NonNullLeaf a) (shape.List' other b) = shape_laws.is (shape.NonNullLeaf a) (shape.List' other b)
shapes_are (shape.NonNullLeaf a) (shape.NonNullList' other b) = shape_laws.is (shape.NonNullLeaf a) (shape.NonNullList' other b)
shapes_are shape.Composite (shape.Leaf b) = shape_laws.is shape.Composite (shape.Leaf b)
shapes_are shape.Composite (shape.NonNullLeaf b) = shape_laws.is shape.Composite (shape.NonNullLeaf b)
shapes_are shape.Composite shape.Composite = shape_laws.is shape.Composite shape.Composite
shapes_are shape.Composite shape.NonNullComposite = shape_laws.is shape.Composite shape.NonNullComposite
shapes_are shape.Composite (shape.List' other b) = shape_laws.is shape.Composite (shape.List' other b)
shapes_are shape.Composite (shape.NonNullList' other b) = shape_laws.is shape.Composite (shape.NonNullList' other b)
shapes_are shape.NonNullComposite (shape.Leaf b) = shape_laws.is shape.NonNullComposite (shape.Leaf b)
shapes_are shape.NonNullComposite (shape.NonNullLeaf b) = shape_laws.is shape.NonNullComposite (shape.NonNullLeaf b)
shapes_are shape.NonNullComposite shape.Composite = shape_laws.is shape.NonNullComposite shape.Composite
shapes_are shape.NonNullComposite shape.NonNullComposite = shape_laws.is shape.NonNullComposite shape.NonNullComposite
shapes_are shape.NonNullComposite (shape.List' other b) = shape_laws.is shape.NonNullComposite (shape.List' other b)
shapes_are shape.NonNullComposite (shape.NonNullList' other b) = shape_laws.is shape.NonNullComposite (shape.NonNullList' other b)
shapes_are (shape.List' place a) (shape.Leaf b) = shape_laws.is (shape.List' place a) (shape.Leaf b)
shapes_are (shape.List' place a) (shape.NonNullLeaf b) = shape_laws.is (shape.List' place a) (shape.NonNullLeaf b)
shapes_are (shape.List' place a) shape.Composite = shape_laws.is (shape.List' place a) shape.Composite
shapes_are (shape.List' place a) shape.NonNullComposite = shape_laws.is (shape.List' place a) shape.NonNullComposite
shapes_are (shape.List' place a) (shape.List' other b) = shape_laws.is (shape.List' place a) (shape.List' other b) ∙ shapes_are a b
shapes_are (shape.List' place a) (shape.NonNullList' other b) = shape_laws.is (shape.List' place a) (shape.NonNullList' other b)
shapes_are (shape.NonNullList' place a) (shape.Leaf b) = shape_laws.is (shape.NonNullList' place a) (shape.Leaf b)
shapes_are (shape.NonNullList' place a) (shape.NonNullLeaf b) = shape_laws.is (shape.NonNullList' place a) (shape.NonNullLeaf b)
shapes_are (shape.NonNullList' place a) shape.Composite = shape_laws.is (shape.NonNullList' place a) shape.Composite
shapes_are (shape.NonNullList' place a) shape.NonNullComposite = shape_laws.is (shape.NonNullList' place a) shape.NonNullComposite
shapes_are (shape.NonNullList' place a) (shape.List' other b) = shape_laws.is (shape.NonNullList' place a) (shape.List' other b)
shapes_are (shape.NonNullList' place a) (shape.NonNullList' other b) = shape_laws.is (shape.NonNullList' place a) (shape.NonNullList' other b) ∙ shapes_are a b

form_itself : (f : Form) → same_form f f ≡ true
form_itself (leaf a) = (bytes_eq-Decides a a).1 refl
form_itself (non_null_leaf a) = (bytes_eq-Decides a a).1 refl
form_itself composite = refl
form_itself non_null_composite = refl
form_itself (list a) = form_itself a
form_itself (non_null_list a) = form_itself a

one_form : (a b : Form) → same_form a b ≡ true → a ≡ b
one_form (leaf a) (leaf b) same = ap leaf ((bytes_eq-Decides a b).0 same)
one_form (non_null_leaf a) (non_null_leaf b) same = ap non_null_leaf ((bytes_eq-Decides a b).0 same)
one_form composite composite same = refl
one_form non_null_composite non_null_composite same = refl
one_form (list a) (list b) same = ap list (one_form a b same)
one_form (non_null_list a) (non_null_list b) same = ap non_null_list (one_form a b same)
one_form _ _ same = absurd (let no : ⊥ = cc in no)

pub equal_forms : (a b : Shape) → equal_shapes a b ≡ true → form_of a ≡ form_of b
equal_forms a b same = one_form (form_of a) (form_of b) (sym (shapes_are a b) ∙ same)

pub equal_by_form : (a b : Shape) → form_of a ≡ form_of b → equal_shapes a b ≡ true
equal_by_form a b same = shapes_are a b ∙ ap (same_form (form_of a)) (sym same) ∙ form_itself (form_of a)

-- shapes of one form are compared alike, so the same is under them
pub meeting_alike : (table : ShapeTable) (a b : Shape) → form_of a ≡ form_of b → meeting_at table a ≡ meeting_at table b
meeting_alike table a b same =
    looked_up_alike (equal_shapes a) (equal_shapes b) (λ key. shapes_are a key ∙ ap (λ f. same_form f (form_of key)) same ∙ sym (shapes_are b key)) table.entries

-- ==== types

-- what forms that are one say
leaf_text : (a b : List ℕ) → leaf a ≡ leaf b → a ≡ b
leaf_text a b same = cc

non_null_leaf_text : (a b : List ℕ) → non_null_leaf a ≡ non_null_leaf b → a ≡ b
non_null_leaf_text a b same = cc

list_items : (a b : Form) → list a ≡ list b → a ≡ b
list_items a b same = cc

non_null_list_items : (a b : Form) → non_null_list a ≡ non_null_list b → a ≡ b
non_null_list_items a b same = cc

leaf_at : (schema : Schema) (name : NameText) (d : ExtendedType) → type_definition schema name ≡ Some d → names_leaf_type schema name ≡ is_leaf_type d
leaf_at schema name d is = rw is refl

-- two names of types that have one form as leaf types, or both as composite ones
abbrev LikeNames : Schema → NameText → NameText → Type 0
LikeNames schema a b =
    ((names_leaf_type schema a ≡ true) × (names_leaf_type schema b ≡ true) × (a.text ≡ b.text)) ⊎
    ((names_leaf_type schema a ≡ false) × (names_leaf_type schema b ≡ false))

alike_by : (schema : Schema) → StandsUnderOwnNames schema → (a b : NameText) (x y : ExtendedType) → type_definition schema a ≡ Some x → type_definition schema b ≡ Some y →
    SameLeafOrBothComposite x y → LikeNames schema a b
alike_by schema names a b (Scalar x) (Scalar y) at_a at_b same =
    inl (
      leaf_at schema a (Scalar x) at_a,
      leaf_at schema b (Scalar y) at_b,
      same_text a b (same_name_then a x.value.value.name b (own_name_is schema names a (Scalar x) at_a)
          (same_name_then x.value.value.name y.value.value.name b same (same_name_back b y.value.value.name (own_name_is schema names b (Scalar y) at_b)))),
    )
alike_by schema names a b (Enum x) (Enum y) at_a at_b same =
    inl (
      leaf_at schema a (Enum x) at_a,
      leaf_at schema b (Enum y) at_b,
      same_text a b (same_name_then a x.value.value.name b (own_name_is schema names a (Enum x) at_a)
          (same_name_then x.value.value.name y.value.value.name b same (same_name_back b y.value.value.name (own_name_is schema names b (Enum y) at_b)))),
    )
alike_by schema names a b (Object x) (Object y) at_a at_b same = inr (leaf_at schema a (Object x) at_a, leaf_at schema b (Object y) at_b)
alike_by schema names a b (Object x) (Interface y) at_a at_b same = inr (leaf_at schema a (Object x) at_a, leaf_at schema b (Interface y) at_b)
alike_by schema names a b (Object x) (Union y) at_a at_b same = inr (leaf_at schema a (Object x) at_a, leaf_at schema b (Union y) at_b)
alike_by schema names a b (Interface x) (Object y) at_a at_b same = inr (leaf_at schema a (Interface x) at_a, leaf_at schema b (Object y) at_b)
alike_by schema names a b (Interface x) (Interface y) at_a at_b same = inr (leaf_at schema a (Interface x) at_a, leaf_at schema b (Interface y) at_b)
alike_by schema names a b (Interface x) (Union y) at_a at_b same = inr (leaf_at schema a (Interface x) at_a, leaf_at schema b (Union y) at_b)
alike_by schema names a b (Union x) (Object y) at_a at_b same = inr (leaf_at schema a (Union x) at_a, leaf_at schema b (Object y) at_b)
alike_by schema names a b (Union x) (Interface y) at_a at_b same = inr (leaf_at schema a (Union x) at_a, leaf_at schema b (Interface y) at_b)
alike_by schema names a b (Union x) (Union y) at_a at_b same = inr (leaf_at schema a (Union x) at_a, leaf_at schema b (Union y) at_b)
alike_by schema names a b _ _ at_a at_b same = absurd (let one = same.0 in let two = same.1 in let no : ⊥ = cc in no)

module _ (schema : Schema) (names : StandsUnderOwnNames schema) where
  like_names : (a b : NameText) → NamesKind schema is_output_type a → NamesKind schema is_output_type b → SameLeafOrBothCompositeNamed schema a b → LikeNames schema a b
  like_names a b out too same = alike_by schema names a b out.0 too.0 out.1 too.1 (same out.0 too.0 out.1 too.1)

  named_form : (a b : NameText) → LikeNames schema a b → form_in schema (Named a) ≡ form_in schema (Named b)
  named_form a b (inl like) = rw (like.0, like.1) (ap leaf like.2)
  named_form a b (inr like) = rw (like.0, like.1) refl

  non_null_form : (a b : NameText) → LikeNames schema a b → form_in schema (NonNullNamed a) ≡ form_in schema (NonNullNamed b)
  non_null_form a b (inl like) = rw (like.0, like.1) (ap non_null_leaf like.2)
  non_null_form a b (inr like) = rw (like.0, like.1) refl

  -- types of one shape in a response have one form, where both are of the schema
  pub one_form_of : (a b : «Type») → NamesKind schema is_output_type (inner_named_type a) → NamesKind schema is_output_type (inner_named_type b) →
      SameResponseShape schema a b → form_in schema a ≡ form_in schema b
  one_form_of (Named a) (Named b) out too same = named_form a b (like_names a b out too same)
  one_form_of (NonNullNamed a) (NonNullNamed b) out too same = non_null_form a b (like_names a b out too same)
  one_form_of (List' place a) (List' other b) out too same = ap list (one_form_of a b out too same)
  one_form_of (NonNullList' place a) (NonNullList' other b) out too same = ap non_null_list (one_form_of a b out too same)
  one_form_of _ _ out too same = absurd same

-- the outermost wrapper
abbrev wrapper : Form → ℕ
wrapper (leaf a) = 0
wrapper composite = 0
wrapper (non_null_leaf a) = 1
wrapper non_null_composite = 1
wrapper (list a) = 2
wrapper (non_null_list a) = 3

abbrev wrapper_of : «Type» → ℕ
wrapper_of (Named a) = 0
wrapper_of (NonNullNamed a) = 1
wrapper_of (List' place a) = 2
wrapper_of (NonNullList' place a) = 3

wrapped_if : (b : Bool) (f g : Form) (n : ℕ) → wrapper f ≡ n → wrapper g ≡ n → wrapper (cond b f g) ≡ n
wrapped_if true f g n e h = e
wrapped_if false f g n e h = h

wrapped_as : (schema : Schema) (a : «Type») → wrapper (form_in schema a) ≡ wrapper_of a
wrapped_as schema (Named a) = wrapped_if (names_leaf_type schema a) (leaf a.text) composite 0 refl refl
wrapped_as schema (NonNullNamed a) = wrapped_if (names_leaf_type schema a) (non_null_leaf a.text) non_null_composite 1 refl refl
wrapped_as schema (List' place a) = refl
wrapped_as schema (NonNullList' place a) = refl

output_composite : (d : ExtendedType) → IsTrue (is_output_type d) → is_leaf_type d ≡ false → IsTrue (is_composite d)
output_composite (Object d) out other = refl
output_composite (Interface d) out other = refl
output_composite (Union d) out other = refl
output_composite _ out other = absurd (let none : ⊥ = cc in none)

both_composite : (x y : ExtendedType) → IsTrue (is_composite x) → IsTrue (is_composite y) → SameLeafOrBothComposite x y
both_composite (Object x) (Object y) p q = (refl, refl)
both_composite (Object x) (Interface y) p q = (refl, refl)
both_composite (Object x) (Union y) p q = (refl, refl)
both_composite (Interface x) (Object y) p q = (refl, refl)
both_composite (Interface x) (Interface y) p q = (refl, refl)
both_composite (Interface x) (Union y) p q = (refl, refl)
both_composite (Union x) (Object y) p q = (refl, refl)
both_composite (Union x) (Interface y) p q = (refl, refl)
both_composite (Union x) (Union y) p q = (refl, refl)
both_composite _ _ p q = absurd (let none : ⊥ = cc in none)

leaf_itself : (d : ExtendedType) → is_leaf_type d ≡ true → SameLeafOrBothComposite d d
leaf_itself (Scalar d) is = same_name_itself d.value.value.name
leaf_itself (Enum d) is = same_name_itself d.value.value.name
leaf_itself _ is = absurd (let none : ⊥ = cc in none)

module _ (schema : Schema) where
  same_by_form : (a b : NameText) → NamesKind schema is_output_type a → NamesKind schema is_output_type b → LikeNames schema a b → SameLeafOrBothCompositeNamed schema a b
  same_by_form a b out too (inl like) x y at_a at_b =
      let one : x ≡ y = same_Some x y (sym at_a ∙ one_type schema a b (from_same_text a b like.2) ∙ at_b) in
      subst (λ z. SameLeafOrBothComposite x z) one (leaf_itself x (sym (leaf_at schema a x at_a) ∙ like.0))
  same_by_form a b out too (inr like) x y at_a at_b =
      let x_is : out.0 ≡ x = same_Some out.0 x (sym out.1 ∙ at_a) in
      let y_is : too.0 ≡ y = same_Some too.0 y (sym too.1 ∙ at_b) in
      both_composite x y
      (output_composite x (subst (λ d. IsTrue (is_output_type d)) x_is out.2) (sym (leaf_at schema a x at_a) ∙ like.0))
      (output_composite y (subst (λ d. IsTrue (is_output_type d)) y_is too.2) (sym (leaf_at schema b y at_b) ∙ like.1))

  named_like : (a b : NameText) → form_in schema (Named a) ≡ form_in schema (Named b) → LikeNames schema a b
  named_like a b same = by (names_leaf_type schema a) (names_leaf_type schema b) refl refl where
    by : (p q : Bool) → names_leaf_type schema a ≡ p → names_leaf_type schema b ≡ q → LikeNames schema a b
    by true true at_a at_b = inl (at_a, at_b, leaf_text a.text b.text (rw (at_a, at_b) at same))
    by false false at_a at_b = inr (at_a, at_b)
    by true false at_a at_b = absurd (let e : leaf a.text ≡ composite = rw (at_a, at_b) at same in let none : ⊥ = cc in none)
    by false true at_a at_b = absurd (let e : composite ≡ leaf b.text = rw (at_a, at_b) at same in let none : ⊥ = cc in none)

  non_null_like : (a b : NameText) → form_in schema (NonNullNamed a) ≡ form_in schema (NonNullNamed b) → LikeNames schema a b
  non_null_like a b same = by (names_leaf_type schema a) (names_leaf_type schema b) refl refl where
    by : (p q : Bool) → names_leaf_type schema a ≡ p → names_leaf_type schema b ≡ q → LikeNames schema a b
    by true true at_a at_b = inl (at_a, at_b, non_null_leaf_text a.text b.text (rw (at_a, at_b) at same))
    by false false at_a at_b = inr (at_a, at_b)
    by true false at_a at_b = absurd (let e : non_null_leaf a.text ≡ non_null_composite = rw (at_a, at_b) at same in let none : ⊥ = cc in none)
    by false true at_a at_b = absurd (let e : non_null_composite ≡ non_null_leaf b.text = rw (at_a, at_b) at same in let none : ⊥ = cc in none)

  -- types of one form have one shape in a response, where both are of output types
  pub one_shape_of : (a b : «Type») → NamesKind schema is_output_type (inner_named_type a) → NamesKind schema is_output_type (inner_named_type b) →
      form_in schema a ≡ form_in schema b → SameResponseShape schema a b
  one_shape_of (Named a) (Named b) out too same = same_by_form a b out too (named_like a b same)
  one_shape_of (NonNullNamed a) (NonNullNamed b) out too same = same_by_form a b out too (non_null_like a b same)
  one_shape_of (List' place a) (List' other b) out too same = one_shape_of a b out too (list_items (form_in schema a) (form_in schema b) same)
  one_shape_of (NonNullList' place a) (NonNullList' other b) out too same = one_shape_of a b out too (non_null_list_items (form_in schema a) (form_in schema b) same)
  one_shape_of a b out too same = absurd (let e : wrapper_of a ≡ wrapper_of b = sym (wrapped_as schema a) ∙ ap wrapper same ∙ wrapped_as schema b in omega (arith, e))

-- ==== types that are written alike

pub same_inner : (a b : «Type») → IsTrue (same_type a b) → SameName (inner_named_type a) (inner_named_type b)
same_inner (Named a) (Named b) same = same
same_inner (NonNullNamed a) (NonNullNamed b) same = same
same_inner (List' place a) (List' other b) same = same_inner a b same
same_inner (NonNullList' place a) (NonNullList' other b) same = same_inner a b same
same_inner _ _ same = absurd (let none : ⊥ = cc in none)

-- a type as it was has the form that it had, if its name is that of a leaf type as before
pub form_stays : (old new : Schema) (a b : «Type») → IsTrue (same_type a b) → names_leaf_type new (inner_named_type b) ≡ names_leaf_type old (inner_named_type a) →
    form_in new b ≡ form_in old a
form_stays old new (Named a) (Named b) same alike = rw alike (ap (λ t. cond (names_leaf_type old a) (leaf t) composite) (sym (same_text a b same)))
form_stays old new (NonNullNamed a) (NonNullNamed b) same alike = rw alike (ap (λ t. cond (names_leaf_type old a) (non_null_leaf t) non_null_composite) (sym (same_text a b same)))
form_stays old new (List' place a) (List' other b) same alike = ap list (form_stays old new a b same alike)
form_stays old new (NonNullList' place a) (NonNullList' other b) same alike = ap non_null_list (form_stays old new a b same alike)
form_stays old new _ _ same alike = absurd (let none : ⊥ = cc in none)

-- ==== the table

-- what all fields of a form have is what one of them has
pub no_other_form : (table : ShapeTable) (old new also : Form) → Knows table old also → KnowsNoOther table old new → also ≡ new
no_other_form table old new also knows none = by (meeting_at table knows.key) refl where
  this : (meeting : Meeting) → (form_of meeting.shape ≡ also) ⊎ IsSome meeting.other → (form_of meeting.shape ≡ new) × IsNone meeting.other → also ≡ new
  this meeting (inl is) both = sym is ∙ both.0
  this meeting (inr other) both = absurd (let one = both.1 in let none' : ⊥ = cc in none')

  by : (o : Option Meeting) → meeting_at table knows.key ≡ o → also ≡ new
  by None at = absurd (subst (λ o. IsSomeAnd o (λ meeting. (form_of meeting.shape ≡ also) ⊎ IsSome meeting.other)) at (knows.met knows.key knows.form))
  by (Some meeting) at =
      this meeting (subst (λ o. IsSomeAnd o (λ meeting. (form_of meeting.shape ≡ also) ⊎ IsSome meeting.other)) at (knows.met knows.key knows.form))
      (subst (λ o. IfSome o (λ meeting. (form_of meeting.shape ≡ new) × IsNone meeting.other)) at (none knows.key knows.form))
