-- Values that can be written down, for each type that is no input object.
use Rattle.std.proofs.Common.{◌≡◌, ◌≢◌, ℕ, ◌<◌, ◌^◌, Bool, true, false, ◌||◌, List, [], ◌∷◌, length, Some, None, refl, sym, ap, ◌∙◌, arith, Vec, String, Global, codes, inl, inr}
use Rattle.std.specs.Prelude.{All, IsTrue, IsFalse, IsSome}
use Rattle.std.specs.Str.{bytes_eq}
use Rattle.std.proofs.lemmas.List.Elements.{All-from_recursion, All-contains}
use Rattle.std.proofs.lemmas.List.Folds.{Any-from_list_any}
use denote.RawPtr.{null_ptr}
use Rattle.indexmap.specs.IndexMap.{get}
use Rattle.graphql_nodes.specs.Names.{NameText, same_name}
use Rattle.graphql_numbers.specs.Numbers.{FitsInt, integer_value}
use Rattle.graphql_documents.specs.TypeReferences.{inner_named_type, is_list, is_non_null}
use Rattle.graphql_documents.specs.Values.{VariablesIn, in_null, in_enum, in_string, in_int, in_boolean, in_list, no_items}
use Rattle.graphql_specification.specs.Values.{Accepts, AcceptsLeaf, accepts_undefined, accepts_null, accepts_leaf, accepts_list, is_custom_scalar, is_built_in_scalar}
use Rattle.graphql_documents.specs.Schemas.{type_definition, is_built_in, is_input_type}
use Rattle.graphql_specification.specs.BuiltInScalars.{built_in_scalar_names, names_built_in_scalar}
use Rattle.graphql_nodes.specs.declared.nodes.Node.{Node}
use Rattle.graphql_documents.specs.declared.documents.type_references.Type.{«Type»}
use Rattle.graphql_documents.specs.declared.documents.values.Value.{Value}
use Rattle.graphql_documents.specs.declared.documents.values.Value.TheVariants as literal
use Rattle.graphql_documents.specs.declared.documents.schemas.EnumType.{EnumType}
use Rattle.graphql_documents.specs.declared.documents.schemas.ScalarType.{ScalarType}
use Rattle.graphql_documents.specs.declared.documents.schemas.Schema.{Schema}
use Rattle.graphql_documents.specs.declared.documents.schemas.ExtendedType.{ExtendedType}
use Rattle.graphql_documents.specs.declared.documents.schemas.ExtendedType.TheVariants.{Scalar, Enum}
use Rattle.graphql_documents.proofs.ListLemmas.{none_stands}
use Rattle.graphql_nodes.proofs.NameLemmas.{same_name_itself}

-- a list as a vector, and a value as a node, of which only what they hold matters
abbrev pub vec_of : {X : Type 0} → Global → (items : List X) → length items < 2 ^ 63 → Vec X Global
vec_of memory items small = record { ptr = null_ptr; len = length items; cap = length items; alloc = memory; items = items; ok = (refl, omega arith); small = small }

abbrev pub node_of : Value → Node Value
node_of v = record { value = record { ptr = null_ptr; value = v }; location = None }

empty_text : Global → String Global
empty_text memory = record { bytes = vec_of memory [] (omega arith); ok = ∣ ([], (refl, refl)) ∣₁ }

abbrev is_null : Value → Bool
is_null literal.Null = true
is_null _ = false

pub not_null : (v : Value) → is_null v ≡ false → v ≢ literal.Null
not_null v other e = let no : true ≡ false = sym (ap is_null e) ∙ other in cc

pub object_not_null : (entries : Vec (NameText × Node Value) Global) → literal.Object entries ≢ literal.Null
object_not_null entries = not_null (literal.Object entries) refl

-- the value has no variables and is accepted for the type, and is not null where that is non-null
pub record IsFiniteValue (schema : Schema) (ty : «Type») (value : Value) : Type 0 where
  pub plain : VariablesIn value []
  pub accepted : Accepts schema [] ty value
  pub not_null : IsTrue (is_non_null ty) → value ≢ literal.Null

abbrev pub HasValue : Schema → «Type» → Type 0
HasValue schema ty = (value : Value) × IsFiniteValue schema ty value

abbrev zero_literal : Value
zero_literal = literal.Int (codes "0")

pub undefined_has : (schema : Schema) (ty : «Type») → type_definition schema (inner_named_type ty) ≡ None → HasValue schema ty
undefined_has schema ty none = (zero_literal, record { plain = in_int; accepted = accepts_undefined none; not_null = λ _. not_null zero_literal refl })

pub nullable_has : (schema : Schema) (ty : «Type») → IsFalse (is_non_null ty) → HasValue schema ty
nullable_has schema ty nullable = (
  literal.Null,
  record {
    plain = in_null;
    accepted = accepts_null nullable;
    not_null = λ non_null. absurd (let no : true ≡ false = sym non_null ∙ nullable in cc);
  },
)

module _ (memory : Global) (schema : Schema) (ty : «Type») (d : ExtendedType) (is : type_definition schema (inner_named_type ty) ≡ Some d) where
  pub list_has : IsTrue (is_list ty) → IsTrue (is_input_type d) → HasValue schema ty
  list_has list input =
      let items : Vec (Node Value) Global = vec_of memory [] (omega arith) in (
        literal.List items,
        record {
          plain = in_list items no_items;
          accepted = accepts_list items is (rw list refl) input (λ item within. absurd (none_stands item within));
          not_null = λ _. not_null (literal.List items) refl;
        },
      )

  -- a leaf value
  leaf_has : (v : Value) → VariablesIn v [] → is_null v ≡ false → AcceptsLeaf d v → HasValue schema ty
  leaf_has v none other leaf = (v, record { plain = none; accepted = accepts_leaf is leaf; not_null = λ _. not_null v other })

middle_true : (a b c : Bool) → b ≡ true → (a || b || c) ≡ true
middle_true true b c e = refl
middle_true false true c e = refl
middle_true false false c e = absurd (let no : ⊥ = cc in no)

last_true : (a b c : Bool) → c ≡ true → (a || b || c) ≡ true
last_true true b c e = refl
last_true false true c e = refl
last_true false false c e = e

right_true : (a b : Bool) → b ≡ true → (a || b) ≡ true
right_true true b e = refl
right_true false b e = e

-- the number 0 fits
zero_fits : FitsInt (integer_value (codes "0"))
zero_fits = (record { le = tt }, record { le = tt })

-- a scalar that every schema has, under one of its five names
module _ (memory : Global) (schema : Schema) (ty : «Type») (d : Node ScalarType) (is : type_definition schema (inner_named_type ty) ≡ Some (Scalar d)) (built_in : is_built_in (Scalar d) ≡ true) where
  abbrev Named : List ℕ → Type 0
  Named name = bytes_eq d.value.value.name.text name ≡ true

  known : (name : List ℕ) → Named name → is_built_in_scalar name (Scalar d) ≡ true
  known name named = rw (built_in, named) refl

  each_has : All (λ name. Named name → HasValue schema ty) built_in_scalar_names
  each_has =
      let leaf = leaf_has memory schema ty (Scalar d) is in
      let Has : List ℕ → Type 0 = λ name. Named name → HasValue schema ty in
      let text = empty_text memory in
      let custom = is_custom_scalar (Scalar d) in
      let scalar = λ (name : List ℕ). is_built_in_scalar name (Scalar d) in
      All-from_recursion Has built_in_scalar_names (
        λ named. leaf zero_literal in_int refl (inr (known (codes "Int") named, zero_fits)),
        (
          λ named. leaf zero_literal in_int refl (inl (last_true custom (scalar (codes "ID")) (scalar (codes "Float")) (known (codes "Float") named))),
          (
            λ named. leaf (literal.String text) (in_string text) refl (middle_true custom (scalar (codes "String")) (scalar (codes "ID")) (known (codes "String") named)),
            (
              λ named. leaf (literal.Boolean true) in_boolean refl (right_true custom (scalar (codes "Boolean")) (known (codes "Boolean") named)),
              (λ named. leaf zero_literal in_int refl (inl (middle_true custom (scalar (codes "ID")) (scalar (codes "Float")) (known (codes "ID") named))), tt),
            ),
          ),
        ),
      )

  built_in_has : IsTrue (names_built_in_scalar d.value.value.name.text) → HasValue schema ty
  built_in_has named =
      let (k, name, within, at, same) = Any-from_list_any (bytes_eq d.value.value.name.text) built_in_scalar_names named in
      All-contains (λ name. Named name → HasValue schema ty) built_in_scalar_names name each_has (k, within, at) same

pub scalar_has : (memory : Global) (schema : Schema) (ty : «Type») (d : Node ScalarType) → type_definition schema (inner_named_type ty) ≡ Some (Scalar d) →
    (IsTrue (is_built_in (Scalar d)) → IsTrue (names_built_in_scalar d.value.value.name.text)) → HasValue schema ty
scalar_has memory schema ty d is named = by (is_built_in (Scalar d)) refl where
  by : (b : Bool) → is_built_in (Scalar d) ≡ b → HasValue schema ty
  by true built_in = built_in_has memory schema ty d is built_in (named built_in)
  by false other = leaf_has memory schema ty (Scalar d) is zero_literal in_int refl (inl (rw other refl))

pub enum_has : (memory : Global) (schema : Schema) (ty : «Type») (d : Node EnumType) → type_definition schema (inner_named_type ty) ≡ Some (Enum d) →
    d.value.value.values.entries ≢ [] → HasValue schema ty
enum_has memory schema ty d is some = by d.value.value.values.entries refl where
  by : (entries : List _) → d.value.value.values.entries ≡ entries → HasValue schema ty
  by [] none = absurd (some none)
  by (e ∷ es) are =
      let has : IsSome (get same_name d.value.value.values e.0) = rw (are, same_name_itself e.0) refl in
      leaf_has memory schema ty (Enum d) is (literal.Enum e.0) in_enum refl (inr has)
