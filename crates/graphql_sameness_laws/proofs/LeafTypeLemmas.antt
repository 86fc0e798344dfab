-- Leaf types that are the same accept the same values. Specification: 3.5 Scalars, 3.9 Enums.
use Rattle.std.proofs.Common.{◌≡◌, ◌∙◌, inl, inr, ℕ, Bool, true, false, cond, not, ◌||◌, List, codes, sym, refl, ap, ap₂, subst}
use Rattle.std.specs.Prelude.{IsFalse, IsTrue}
use Rattle.std.specs.Str.{bytes_eq}
use Rattle.graphql_nodes.specs.Names.{NameText, is_built_in_location, same_name}
use Rattle.graphql_documents.specs.declared.documents.schemas.ExtendedType.{ExtendedType}
use Rattle.graphql_documents.specs.declared.documents.schemas.ExtendedType.TheVariants.{Scalar, Object, Interface, Union, Enum, InputObject}
use Rattle.graphql_documents.specs.declared.documents.values.Value.{Value, out-Value}
use Rattle.graphql_documents.specs.declared.documents.values.Value.TheOpen as Open
use Rattle.graphql_documents.specs.declared.documents.values.Value.TheVariants as literal
use Rattle.graphql_specification.specs.Values.{AcceptsLeaf, HasEnumValue, is_built_in_scalar, is_custom_scalar}
use Rattle.graphql_document_building.specs.SameLeaves.{SameContents, SameEnumValue, same_boolean, same_enum, same_float, same_int, same_list, same_null, same_object, same_string, same_variable}
use Rattle.graphql_building_laws.specs.SameSchemas.{SameComponent, SameType}
use Rattle.graphql_sameness_laws.proofs.ZipLemmas.{some_alike, zip_lookup}

pub both_custom : (x y : ExtendedType) → SameType x y → is_custom_scalar x ≡ is_custom_scalar y
both_custom (Scalar a) (Scalar b) same = ap (λ at. not (is_built_in_location at)) same.location
both_custom (Object a) (Object b) same = refl
both_custom (Interface a) (Interface b) same = refl
both_custom (Union a) (Union b) same = refl
both_custom (Enum a) (Enum b) same = refl
both_custom (InputObject a) (InputObject b) same = refl
both_custom _ _ same = absurd same

pub both_built_in_scalar : (name : List ℕ) (x y : ExtendedType) → SameType x y → is_built_in_scalar name x ≡ is_built_in_scalar name y
both_built_in_scalar name (Scalar a) (Scalar b) same =
    ap₂ (λ at (n : NameText). cond (is_built_in_location at) (bytes_eq n.text name) false) same.location same.name
both_built_in_scalar name (Object a) (Object b) same = refl
both_built_in_scalar name (Interface a) (Interface b) same = refl
both_built_in_scalar name (Union a) (Union b) same = refl
both_built_in_scalar name (Enum a) (Enum b) same = refl
both_built_in_scalar name (InputObject a) (InputObject b) same = refl
both_built_in_scalar name _ _ same = absurd same

enum_value_too : (x y : ExtendedType) (name : NameText) → SameType x y → HasEnumValue x name → HasEnumValue y name
enum_value_too (Enum a) (Enum b) name same has =
    sym (some_alike (SameComponent SameEnumValue) _ _ (zip_lookup (SameComponent SameEnumValue) (same_name name) _ _ same.values)) ∙ has
enum_value_too (Scalar a) (Scalar b) name same has = absurd has
enum_value_too (Object a) (Object b) name same has = absurd has
enum_value_too (Interface a) (Interface b) name same has = absurd has
enum_value_too (Union a) (Union b) name same has = absurd has
enum_value_too (InputObject a) (InputObject b) name same has = absurd has
enum_value_too _ _ name same has = absurd same

-- what is accepted for a leaf type is no list and no object
abbrev is_leaf_form : Open.Value-F Value → Bool
is_leaf_form (Open.Enum name) = true
is_leaf_form (Open.String text) = true
is_leaf_form (Open.Float text) = true
is_leaf_form (Open.Int text) = true
is_leaf_form (Open.Boolean truth) = true
is_leaf_form _ = false

leaf_form : (d : ExtendedType) (v : Value) → AcceptsLeaf d v → IsTrue (is_leaf_form (out-Value v))
unfolding out-Value denote.Hole.Carrier.out
leaf_form d literal.Null h = absurd h
leaf_form d (literal.Enum name) h = refl
leaf_form d (literal.Variable name) h = absurd h
leaf_form d (literal.String text) h = refl
leaf_form d (literal.Float number) h = refl
leaf_form d (literal.Int number) h = refl
leaf_form d (literal.Boolean truth) h = refl
leaf_form d (literal.List' shape items) h = absurd h
leaf_form d (literal.Object' shape entries) h = absurd h

no_leaf : (d : ExtendedType) (v : Value) (x : Open.Value-F Value) → out-Value v ≡ x → IsFalse (is_leaf_form x) → ¬ AcceptsLeaf d v
no_leaf d v x e no_form h =
    let form : IsTrue (is_leaf_form x) = subst (λ x. IsTrue (is_leaf_form x)) e (leaf_form d v h) in
    let no : ⊥ = cc in no

-- a leaf value of one of two kinds of scalars
module _ (x y : ExtendedType) (same : SameType x y) where
  custom_too : IsTrue (is_custom_scalar x) → IsTrue (is_custom_scalar y)
  custom_too h = sym (both_custom x y same) ∙ h

  one_too : (name : List ℕ) → IsTrue (is_custom_scalar x || is_built_in_scalar name x) → IsTrue (is_custom_scalar y || is_built_in_scalar name y)
  one_too name h = sym (ap₂ ◌||◌ (both_custom x y same) (both_built_in_scalar name x y same)) ∙ h

  two_too : (name other : List ℕ) → IsTrue (is_custom_scalar x || is_built_in_scalar name x || is_built_in_scalar other x) →
      IsTrue (is_custom_scalar y || is_built_in_scalar name y || is_built_in_scalar other y)
  two_too name other h =
      sym (ap₂ ◌||◌ (ap₂ ◌||◌ (both_custom x y same) (both_built_in_scalar name x y same)) (both_built_in_scalar other x y same)) ∙ h

  pub leaf_too : {v w : Value} → SameContents v w → AcceptsLeaf x v → AcceptsLeaf y w
  leaf_too same_null h = absurd h
  leaf_too (same_enum {name}) h = elim h [ inl custom ↦ inl (custom_too custom) | inr has ↦ inr (enum_value_too x y name same has) ]
  leaf_too same_variable h = absurd h
  leaf_too (same_string a b e) h = two_too (codes "String") (codes "ID") h
  leaf_too (same_float {text}) h = one_too (codes "Float") h
  leaf_too (same_int {text}) h = elim h [
    | inl takes ↦ inl (two_too (codes "ID") (codes "Float") takes)
    | inr fits ↦ inr (sym (both_built_in_scalar (codes "Int") x y same) ∙ fits.0, fits.1)
  ]
  leaf_too (same_boolean {truth}) h = one_too (codes "Boolean") h
  leaf_too (same_list xs ys items) h = absurd (no_leaf x (literal.List xs) _ (literal.outs-List xs) refl h)
  leaf_too (same_object xs ys _) h = absurd (no_leaf x (literal.Object xs) _ (literal.outs-Object xs) refl h)
