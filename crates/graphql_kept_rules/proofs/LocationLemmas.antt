-- A variable may be where it might be. Specification: 5.8.5 All Variable Usages Are Allowed.
use Rattle.std.proofs.Common.{◌≡◌, ◌&&◌, ◌⊎◌, inl, inr, Bool, true, false, not, Option, None, Some, refl, subst}
use Rattle.std.specs.Prelude.{IsSome, IsTrue, MatchBool, is_none}
use Rattle.graphql_documents.specs.Schemas.{is_required}
use Rattle.graphql_documents.specs.TypeReferences.{is_assignable, is_non_null, nullable}
use Rattle.graphql_documents.specs.declared.documents.definitions.InputValueDefinition.{InputValueDefinition}
use Rattle.graphql_documents.specs.declared.documents.definitions.VariableDefinition.{VariableDefinition}
use Rattle.graphql_documents.specs.declared.documents.type_references.Type.{«Type»}
use Rattle.graphql_specification.specs.VariableUsages.{HasNonNullDefault, IsUsageAllowed}
use Rattle.graphql_usage_rules.specs.Usages.{Location}
use Rattle.graphql_usage_rules.specs.VariableMisuses.{IsAllowedAt}
use Rattle.graphql_schema_changes.specs.Keeps.{KeepsInputValue}
use Rattle.graphql_kept_rules.proofs.AssignableLemmas.{assignable_on, non_null_before, nullable_assignable, nullable_itself}

-- what a place asks of a variable: by its type and whether it has a default, and by the variable's type and default
abbrev Allows : «Type» → Type 0 → «Type» → Type 0 → Type 0
Allows variable Own place Given = MatchBool (is_non_null place && not (is_non_null variable))
    ((Own ⊎ Given) × IsTrue (is_assignable variable (nullable place)))
    (IsTrue (is_assignable variable place))

module _ (variable : «Type») (Own : Type 0) (old new : «Type») (Given Still : Type 0) (fits : IsTrue (is_assignable old new))
    (stays : IsTrue (is_non_null new) → Given → Still) where
  by_null : (x y n : Bool) → is_non_null old ≡ x → is_non_null new ≡ y → is_non_null variable ≡ n →
      MatchBool (x && not n) ((Own ⊎ Given) × IsTrue (is_assignable variable (nullable old))) (IsTrue (is_assignable variable old)) →
      MatchBool (y && not n) ((Own ⊎ Still) × IsTrue (is_assignable variable (nullable new))) (IsTrue (is_assignable variable new))
  by_null true true false p q r h = (
    elim h.0 [ inl own ↦ inl own | inr given ↦ inr (stays q given) ],
    assignable_on variable (nullable old) (nullable new) h.1 (nullable_assignable old new fits),
  )
  by_null true true true p q r h = assignable_on variable old new h fits
  by_null true false false p q r h =
      assignable_on variable (nullable old) new h.1 (subst (λ t. IsTrue (is_assignable (nullable old) t)) (nullable_itself new q) (nullable_assignable old new fits))
  by_null true false true p q r h = assignable_on variable old new h fits
  by_null false false false p q r h = assignable_on variable old new h fits
  by_null false false true p q r h = assignable_on variable old new h fits
  by_null false true n p q r h = absurd (let before = non_null_before old new fits q in let no : ⊥ = cc in no)

  pub allows_still : Allows variable Own old Given → Allows variable Own new Still
  allows_still = by_null (is_non_null old) (is_non_null new) (is_non_null variable) refl refl refl

pub usage_stays : (v : VariableDefinition) (old new : InputValueDefinition) → KeepsInputValue old new → IsUsageAllowed v old → IsUsageAllowed v new
usage_stays v old new keeps h =
    allows_still v.ty.value.value (HasNonNullDefault v) old.ty.value.value new.ty.value.value (IsSome old.default_value) (IsSome new.default_value)
    keeps.ty keeps.default_value h

-- a place still allows what it did
pub record KeepsLocation (m n : Location) : Type 0 where
  pub ty : IsTrue (is_assignable m.ty n.ty)
  pub has_default : IsTrue (is_non_null n.ty) → IsTrue m.has_default → IsTrue n.has_default

pub allowed_still : (v : VariableDefinition) (m n : Location) → KeepsLocation m n → IsAllowedAt v m → IsAllowedAt v n
allowed_still v m n keeps h =
    allows_still v.ty.value.value (HasNonNullDefault v) m.ty n.ty (IsTrue m.has_default) (IsTrue n.has_default) keeps.ty keeps.has_default h

-- ==== what must be given

pub required_before : (old new : InputValueDefinition) → KeepsInputValue old new → IsTrue (is_required new) → IsTrue (is_required old)
required_before old new keeps required =
    by_test (is_non_null old.ty.value.value) (is_non_null new.ty.value.value) old.default_value new.default_value
    refl refl (non_null_before old.ty.value.value new.ty.value.value keeps.ty) keeps.default_value required
  where
    by_test : {X : Type 0} (x y : Bool) (o p : Option X) → is_non_null old.ty.value.value ≡ x → is_non_null new.ty.value.value ≡ y →
        (IsTrue y → IsTrue x) → (IsTrue y → IsSome o → IsSome p) → IsTrue (y && is_none p) → IsTrue (x && is_none o)
    by_test true y None None p q back stays h = refl
    by_test true y None (Some e) p q back stays h = refl
    by_test true true (Some d) None p q back stays h = absurd (let given = stays refl refl in let no : ⊥ = cc in no)
    by_test true true (Some d) (Some e) p q back stays h = absurd (let no : ⊥ = cc in no)
    by_test true false (Some d) o p q back stays h = absurd (let no : ⊥ = cc in no)
    by_test false true o o' p q back stays h = absurd (let before = back refl in let no : ⊥ = cc in no)
    by_test false false o o' p q back stays h = absurd (let no : ⊥ = cc in no)
