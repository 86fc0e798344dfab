-- What it takes that a literal without parts is accepted, and why it is not.
use Rattle.std.proofs.Common.{ℕ, codes, ◌≡◌, inl, inr, List, Bool, Some, IsTrue, IsFalse, IsSome, refl, sym, ◌∙◌, subst, true≢false}
use Rattle.indexmap.specs.IndexMap.{get}
use Rattle.graphql_specification.specs.Values.{Accepts, accepts_null, accepts_variable, accepts_leaf, AcceptsLeaf, is_built_in_scalar, is_custom_scalar, CannotStandFor, null_for_non_null, variable_of_other_type, leaf_of_other_type, IsUnknownEnumValue}
use Rattle.graphql_nodes.specs.Names.{NameText, SameName, same_name}
use Rattle.graphql_numbers.specs.Numbers.{FitsInt, integer_value}
use Rattle.graphql_documents.specs.Schemas.{is_input_type, type_definition}
use Rattle.graphql_documents.specs.TypeReferences.{inner_named_type, is_non_null}
use Rattle.graphql_documents.specs.Definitions.{variable_named}
use Rattle.graphql_documents.specs.declared.documents.definitions.VariableDefinition.{VariableDefinition}
use Rattle.graphql_nodes.specs.declared.nodes.Node.{Node}
use Rattle.graphql_documents.specs.declared.documents.schemas.EnumType.{EnumType}
use Rattle.graphql_documents.specs.declared.documents.schemas.ExtendedType.{ExtendedType}
use Rattle.graphql_documents.specs.declared.documents.schemas.ExtendedType.TheVariants as types
use Rattle.graphql_documents.specs.declared.documents.schemas.Schema.{Schema}
use Rattle.graphql_documents.specs.declared.documents.type_references.Type.{«Type»}
use Rattle.graphql_documents.specs.declared.documents.values.Value.{Value}
use Rattle.graphql_documents.specs.declared.documents.values.Value.TheVariants as literal
use Rattle.graphql_values.specs.ValueSteps.{is_other_scalar, takes_other_scalar, takes_every_int}
use Rattle.graphql_values.proofs.AcceptsLemmas.{leaf_refused}

-- what is false is not true
refuted : {b : Bool} → IsFalse b → ¬ IsTrue b
refuted never t = true≢false (sym t ∙ never)

-- an enum value stands for custom scalars and enums alone
enum_elsewhere : (d : ExtendedType) (name : NameText) → IsFalse (is_custom_scalar d) → ((e : Node EnumType) → d ≡ types.Enum e → ⊥) →
    ¬ AcceptsLeaf d (literal.Enum name) × ¬ IsUnknownEnumValue d (literal.Enum name)
enum_elsewhere (types.Scalar d) name never other = (λ h. elim h [ inl custom ↦ refuted never custom | inr known ↦ known ], λ h. h)
enum_elsewhere (types.Object d) name never other = (λ h. elim h [ inl custom ↦ refuted never custom | inr known ↦ known ], λ h. h)
enum_elsewhere (types.Interface d) name never other = (λ h. elim h [ inl custom ↦ refuted never custom | inr known ↦ known ], λ h. h)
enum_elsewhere (types.Union d) name never other = (λ h. elim h [ inl custom ↦ refuted never custom | inr known ↦ known ], λ h. h)
enum_elsewhere (types.Enum d) name never other = absurd (other d refl)
enum_elsewhere (types.InputObject d) name never other = (λ h. elim h [ inl custom ↦ refuted never custom | inr known ↦ known ], λ h. h)

-- a string, a float or a boolean is accepted by the scalars that take it
other_leaf : (d : ExtendedType) (v : Value) → IsTrue (is_other_scalar v) → IsTrue (takes_other_scalar d v) → AcceptsLeaf d v
other_leaf d literal.Null other t = absurd (refuted refl other)
other_leaf d (literal.Enum name) other t = absurd (refuted refl other)
other_leaf d (literal.Variable name) other t = absurd (refuted refl other)
other_leaf d (literal.String text) other t = t
other_leaf d (literal.Float number) other t = t
other_leaf d (literal.Int number) other t = absurd (refuted refl other)
other_leaf d (literal.Boolean truth) other t = t
other_leaf d (literal.List' shape items) other t = absurd (refuted refl other)
other_leaf d (literal.Object' shape entries) other t = absurd (refuted refl other)

-- by no others, and nothing else is said of it
not_unknown : (d : ExtendedType) (v : Value) → IsTrue (is_other_scalar v) → ¬ IsUnknownEnumValue d v
not_unknown (types.Scalar d) v other h = h
not_unknown (types.Object d) v other h = h
not_unknown (types.Interface d) v other h = h
not_unknown (types.Union d) v other h = h
not_unknown (types.InputObject d) v other h = h
not_unknown (types.Enum d) literal.Null other h = h
not_unknown (types.Enum d) (literal.Enum name) other h = refuted refl other
not_unknown (types.Enum d) (literal.Variable name) other h = h
not_unknown (types.Enum d) (literal.String text) other h = h
not_unknown (types.Enum d) (literal.Float number) other h = h
not_unknown (types.Enum d) (literal.Int number) other h = h
not_unknown (types.Enum d) (literal.Boolean truth) other h = h
not_unknown (types.Enum d) (literal.List' shape items) other h = h
not_unknown (types.Enum d) (literal.Object' shape entries) other h = h

int_not_unknown : (d : ExtendedType) (number : List ℕ) → ¬ IsUnknownEnumValue d (literal.Int number)
int_not_unknown (types.Scalar d) number h = h
int_not_unknown (types.Object d) number h = h
int_not_unknown (types.Interface d) number h = h
int_not_unknown (types.Union d) number h = h
int_not_unknown (types.InputObject d) number h = h
int_not_unknown (types.Enum d) number h = h

plain_elsewhere : (variables : List (Node VariableDefinition)) (ty : «Type») (d : ExtendedType) (v : Value) →
    IsTrue (is_other_scalar v) → IsFalse (takes_other_scalar d v) → CannotStandFor variables ty d v ty
plain_elsewhere variables ty d literal.Null other never = absurd (refuted refl other)
plain_elsewhere variables ty d (literal.Enum name) other never = absurd (refuted refl other)
plain_elsewhere variables ty d (literal.Variable name) other never = absurd (refuted refl other)
plain_elsewhere variables ty d (literal.String text) other never = leaf_of_other_type refl (refuted never) (λ h. h) (not_unknown d (literal.String text) refl)
plain_elsewhere variables ty d (literal.Float number) other never = leaf_of_other_type refl (refuted never) (λ h. h) (not_unknown d (literal.Float number) refl)
plain_elsewhere variables ty d (literal.Int number) other never = absurd (refuted refl other)
plain_elsewhere variables ty d (literal.Boolean truth) other never = leaf_of_other_type refl (refuted never) (λ h. h) (not_unknown d (literal.Boolean truth) refl)
plain_elsewhere variables ty d (literal.List' shape items) other never = absurd (refuted refl other)
plain_elsewhere variables ty d (literal.Object' shape entries) other never = absurd (refuted refl other)

module _ (schema : Schema) (variables : List (Node VariableDefinition)) (ty : «Type») (d : ExtendedType) (v : Value) (is : type_definition schema (inner_named_type ty) ≡ Some d) where
  pub null_accepted : v ≡ literal.Null → IsFalse (is_non_null ty) → Accepts schema variables ty v
  null_accepted e nullable = subst (Accepts schema variables ty) (sym e) (accepts_null nullable)

  pub null_cannot : v ≡ literal.Null → IsTrue (is_non_null ty) → CannotStandFor variables ty d v ty
  null_cannot e non_null = subst (λ x. CannotStandFor variables ty d x ty) (sym e) (null_for_non_null non_null)

  pub custom_enum_accepted : (name : NameText) → v ≡ literal.Enum name → IsTrue (is_custom_scalar d) → Accepts schema variables ty v
  custom_enum_accepted name e custom = subst (Accepts schema variables ty) (sym e) (accepts_leaf is (inl custom))

  pub enum_cannot : (name : NameText) → v ≡ literal.Enum name → IsFalse (is_custom_scalar d) → ((t : Node EnumType) → d ≡ types.Enum t → ⊥) →
      CannotStandFor variables ty d v ty
  enum_cannot name e never other =
      let elsewhere = enum_elsewhere d name never other in
      subst (λ x. CannotStandFor variables ty d x ty) (sym e) (leaf_of_other_type refl elsewhere.0 (λ h. h) elsewhere.1)

  pub known_enum_accepted : (name : NameText) (t : Node EnumType) → v ≡ literal.Enum name → d ≡ types.Enum t →
      IsSome (get same_name t.value.value.values name) → Accepts schema variables ty v
  known_enum_accepted name t e of_enum known =
      subst (Accepts schema variables ty) (sym e)
      (accepts_leaf is (subst (λ x. AcceptsLeaf x (literal.Enum name)) (sym of_enum) (inr known)))

  pub unknown_enum_refused : (name : NameText) (t : Node EnumType) → v ≡ literal.Enum name → d ≡ types.Enum t →
      ¬ IsSome (get same_name t.value.value.values name) → ¬ Accepts schema variables ty v
  unknown_enum_refused name t e of_enum unknown h =
      leaf_refused schema variables ty d is (literal.Enum name) refl
      (λ leaf. let there : AcceptsLeaf (types.Enum t) (literal.Enum name) = subst (λ x. AcceptsLeaf x (literal.Enum name)) of_enum leaf in
      elim there [ inl custom ↦ refuted refl custom | inr known ↦ unknown known ])
      (subst (Accepts schema variables ty) e h)

  pub other_accepted : IsTrue (is_other_scalar v) → IsTrue (takes_other_scalar d v) → Accepts schema variables ty v
  other_accepted other t = accepts_leaf is (other_leaf d v other t)

  pub other_cannot : IsTrue (is_other_scalar v) → IsFalse (takes_other_scalar d v) → CannotStandFor variables ty d v ty
  other_cannot other never = plain_elsewhere variables ty d v other never

  pub every_int_accepted : (number : List ℕ) → v ≡ literal.Int number → IsTrue (takes_every_int d) → Accepts schema variables ty v
  every_int_accepted number e t = subst (Accepts schema variables ty) (sym e) (accepts_leaf is (inl t))

  pub small_int_accepted : (number : List ℕ) → v ≡ literal.Int number → IsTrue (is_built_in_scalar (codes "Int") d) → FitsInt (integer_value number) →
      Accepts schema variables ty v
  small_int_accepted number e int fits = subst (Accepts schema variables ty) (sym e) (accepts_leaf is (inr (int, fits)))

  pub int_cannot : (number : List ℕ) → v ≡ literal.Int number → IsFalse (takes_every_int d) → IsFalse (is_built_in_scalar (codes "Int") d) →
      CannotStandFor variables ty d v ty
  int_cannot number e none no_int =
      subst (λ x. CannotStandFor variables ty d x ty) (sym e)
      (leaf_of_other_type refl (λ h. elim h [ inl t ↦ refuted none t | inr p ↦ refuted no_int p.0 ]) (λ h. refuted no_int h.0) (int_not_unknown d number))

  pub large_int_refused : (number : List ℕ) → v ≡ literal.Int number → IsFalse (takes_every_int d) → ¬ FitsInt (integer_value number) →
      ¬ Accepts schema variables ty v
  large_int_refused number e none large h =
      leaf_refused schema variables ty d is (literal.Int number) refl
      (λ leaf. elim leaf [ inl t ↦ refuted none t | inr p ↦ large p.1 ])
      (subst (Accepts schema variables ty) e h)

  pub variable_accepted : (name : NameText) (w : Node VariableDefinition) → v ≡ literal.Variable name →
      variable_named name variables ≡ Some w → IsTrue (is_input_type d) →
      SameName (inner_named_type w.value.value.ty.value.value) (inner_named_type ty) → Accepts schema variables ty v
  variable_accepted name w e named input same = subst (Accepts schema variables ty) (sym e) (accepts_variable is input named same)

  pub variable_cannot : (name : NameText) (w : Node VariableDefinition) → v ≡ literal.Variable name →
      variable_named name variables ≡ Some w →
      ¬ (IsTrue (is_input_type d) × SameName (inner_named_type w.value.value.ty.value.value) (inner_named_type ty)) →
      CannotStandFor variables ty d v ty
  variable_cannot name w e named other = subst (λ x. CannotStandFor variables ty d x ty) (sym e) (variable_of_other_type named other)
