-- The leaf values of a type are values of one that keeps its values. Specification: 3.5 Scalars, 3.9 Enums.
use Rattle.std.proofs.Common.{◌≡◌, ◌∙◌, ◌⊎◌, ◌||◌, inl, inr, false, cond, not, ℕ, List, codes, refl, sym, ap, ap₂, subst}
use Rattle.std.specs.Prelude.{IsSome, IsTrue}
use Rattle.std.specs.Map.{lookup}
use Rattle.std.specs.Str.{bytes_eq}
use Rattle.std.proofs.lemmas.List.Elements.{All-contains}
use Rattle.graphql_nodes.specs.Names.{NameText, same_name}
use Rattle.graphql_nodes.proofs.NameLemmas.{same_text}
use Rattle.graphql_nodes.specs.declared.nodes.Node.{Node}
use Rattle.graphql_documents.specs.Schemas.{is_input_type}
use Rattle.graphql_documents.specs.declared.documents.schemas.EnumType.{EnumType}
use Rattle.graphql_documents.specs.declared.documents.schemas.ExtendedType.{ExtendedType}
use Rattle.graphql_documents.specs.declared.documents.schemas.ExtendedType.TheVariants.{Scalar, Enum, InputObject}
use Rattle.graphql_documents.specs.declared.documents.schemas.InputObjectType.{InputObjectType}
use Rattle.graphql_documents.specs.declared.documents.values.Value.{Value}
use Rattle.graphql_documents.specs.declared.documents.values.Value.TheVariants as literal
use Rattle.graphql_specification.specs.Values.{AcceptsLeaf, HasEnumValue, is_built_in_scalar, is_custom_scalar}
use Rattle.graphql_schema_changes.specs.Keeps.{KeepsEnumValues, KeepsInputFields, KeepsValues, keeps_enum_values, keeps_input_fields, same_built_in_scalar, to_custom_scalar}
use Rattle.graphql_kept_rules.proofs.FoundLemmas.{entry_in, one_lookup, some_found}

custom_is_input : (b : ExtendedType) → IsTrue (is_custom_scalar b) → IsTrue (is_input_type b)
custom_is_input (Scalar x) custom = refl
custom_is_input _ custom = absurd (let no : ⊥ = cc in no)

pub input_after : {a b : ExtendedType} → KeepsValues a b → IsTrue (is_input_type b)
input_after (to_custom_scalar {new = b} input custom) = custom_is_input b custom
input_after (same_built_in_scalar p q r) = refl
input_after (keeps_enum_values p) = refl
input_after (keeps_input_fields p) = refl

pub custom_after : {a b : ExtendedType} → KeepsValues a b → IsTrue (is_custom_scalar a) → IsTrue (is_custom_scalar b)
custom_after (to_custom_scalar input custom) h = custom
custom_after (same_built_in_scalar p q r) h = absurd (let no : ⊥ = cc in no)
custom_after (keeps_enum_values p) h = absurd (let no : ⊥ = cc in no)
custom_after (keeps_input_fields p) h = absurd (let no : ⊥ = cc in no)

-- an input object keeps its fields, or becomes a custom scalar
pub object_after : (d : Node InputObjectType) (b : ExtendedType) → KeepsValues (InputObject d) b →
    IsTrue (is_custom_scalar b) ⊎ ((e : Node InputObjectType) × (b ≡ InputObject e) × KeepsInputFields d.value.value e.value.value)
object_after d b (to_custom_scalar input custom) = inl custom
object_after d (InputObject e) (keeps_input_fields p) = inr (e, refl, p)

-- a custom scalar takes each leaf value
by_custom : (a b : ExtendedType) → IsTrue (is_custom_scalar b) → (v : Value) → AcceptsLeaf a v → AcceptsLeaf b v
by_custom a b custom literal.Null h = absurd h
by_custom a b custom (literal.Enum name) h = inl custom
by_custom a b custom (literal.Variable name) h = absurd h
by_custom a b custom (literal.String text) h = rw custom refl
by_custom a b custom (literal.Float number) h = rw custom refl
by_custom a b custom (literal.Int number) h = inl (rw custom refl)
by_custom a b custom (literal.Boolean truth) h = rw custom refl
by_custom a b custom (literal.List' shape items) h = absurd h
by_custom a b custom (literal.Object' shape entries) h = absurd h

-- a type of the same kind takes the same
module _ (a b : ExtendedType) (custom : is_custom_scalar a ≡ is_custom_scalar b) (built_in : (name : List ℕ) → is_built_in_scalar name a ≡ is_built_in_scalar name b)
    (values : (name : NameText) → HasEnumValue a name → HasEnumValue b name) where
  one_name : (name : List ℕ) → IsTrue (is_custom_scalar a || is_built_in_scalar name a) → IsTrue (is_custom_scalar b || is_built_in_scalar name b)
  one_name name h = sym (ap₂ ◌||◌ custom (built_in name)) ∙ h

  two_names : (name other : List ℕ) → IsTrue (is_custom_scalar a || is_built_in_scalar name a || is_built_in_scalar other a) →
      IsTrue (is_custom_scalar b || is_built_in_scalar name b || is_built_in_scalar other b)
  two_names name other h = sym (ap₂ ◌||◌ (ap₂ ◌||◌ custom (built_in name)) (built_in other)) ∙ h

  by_kind : (v : Value) → AcceptsLeaf a v → AcceptsLeaf b v
  by_kind literal.Null h = absurd h
  by_kind (literal.Enum name) h = elim h [ inl is ↦ inl (sym custom ∙ is) | inr has ↦ inr (values name has) ]
  by_kind (literal.Variable name) h = absurd h
  by_kind (literal.String text) h = two_names (codes "String") (codes "ID") h
  by_kind (literal.Float number) h = one_name (codes "Float") h
  by_kind (literal.Int number) h = elim h [
    | inl takes ↦ inl (two_names (codes "ID") (codes "Float") takes)
    | inr fits ↦ inr (sym (built_in (codes "Int")) ∙ fits.0, fits.1)
  ]
  by_kind (literal.Boolean truth) h = one_name (codes "Boolean") h
  by_kind (literal.List' shape items) h = absurd h
  by_kind (literal.Object' shape entries) h = absurd h

enum_values_after : (d e : Node EnumType) → KeepsEnumValues d e → (name : NameText) → HasEnumValue (Enum d) name → HasEnumValue (Enum e) name
enum_values_after d e keeps name has =
    let found = some_found (lookup (same_name name) d.value.value.values.entries) has in
    let here = entry_in (same_name name) d.value.value.values.entries found.0 found.1 in
    let kept = All-contains (λ entry. HasEnumValue (Enum e) entry.0) d.value.value.values.entries (here.0, found.0) keeps here.1 in
    subst (λ o. IsSome o) (sym (one_lookup e.value.value.values.entries name here.0 here.2)) kept

pub leaf_after : {a b : ExtendedType} → KeepsValues a b → (v : Value) → AcceptsLeaf a v → AcceptsLeaf b v
leaf_after (to_custom_scalar {old = a} {new = b} input custom) v h = by_custom a b custom v h
leaf_after (same_built_in_scalar {old = a} {new = b} p q named) v h =
    by_kind (Scalar a) (Scalar b) (ap not p ∙ sym (ap not q))
    (λ name. ap₂ (λ x (text : List ℕ). cond x (bytes_eq text name) false) (p ∙ sym q) (same_text a.value.value.name b.value.value.name named))
    (λ name has. absurd has) v h
leaf_after (keeps_enum_values {old = d} {new = e} keeps) v h = by_kind (Enum d) (Enum e) refl (λ name. refl) (enum_values_after d e keeps) v h
leaf_after (keeps_input_fields {old = d} {new = e} keeps) v h = by_kind (InputObject d) (InputObject e) refl (λ name. refl) (λ name has. absurd has) v h
