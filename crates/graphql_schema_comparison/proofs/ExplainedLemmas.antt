-- What it says that no change, or some change, of a list breaks documents.
use Rattle.std.proofs.Common.{◌≡◌, Bool, true, false, not, List, refl, All}
use Rattle.std.specs.Prelude.{◌↔◌, Any, IsFalse, IsTrue}
use Rattle.graphql_documents.proofs.ListLemmas.{each_standing}
use Rattle.graphql_change_kinds.specs.Breaks.{Breaks, IsHarmless, breaks, breaks_selections}
use Rattle.graphql_change_kinds.specs.declared.changes.Change.{Change}
use Rattle.graphql_change_kinds.specs.declared.changes.Change.TheVariants as change
use Rattle.graphql_change_kinds.specs.declared.changes.SchemaChange.{SchemaChange}
use Rattle.graphql_change_kinds.specs.declared.changes.TypeEffect.{TypeEffect}
use Rattle.graphql_change_kinds.specs.declared.changes.TypeEffect.TheVariants as effect

harmless_if : (merging : Bool) (found : SchemaChange) → ¬ Breaks merging found → IsHarmless merging found
harmless_if merging found none = by (breaks merging found.change) refl where
  by : (b : Bool) → breaks merging found.change ≡ b → breaks merging found.change ≡ false
  by true is = absurd (none is)
  by false is = is

-- where the answer is no, all changes are harmless
pub all_harmless : (merging : Bool) (list : List SchemaChange) (b : Bool) → IsTrue b ↔ Any (Breaks merging) list → IsTrue (not b) → All (IsHarmless merging) list
all_harmless merging list true is harmless = absurd (let none : ⊥ = cc in none)
all_harmless merging list false is harmless =
    each_standing (IsHarmless merging) list
    (λ found within. harmless_if merging found (λ breaks'. let yes : false ≡ true = is.1 (within.0, found, within.1, within.2, breaks') in let none : ⊥ = cc in none))

-- what breaks documents without merging does with it
effect_too : (e : TypeEffect) → breaks_selections false e ≡ true → breaks_selections true e ≡ true
effect_too effect.OtherSelections is = refl
effect_too (effect.MeetsOther other) is = refl
effect_too _ is = absurd (let none : ⊥ = cc in none)

change_too : (c : Change) → breaks false c ≡ true → breaks true c ≡ true
change_too (change.FieldTypeChanged field from to e) is = effect_too e is
change_too _ is = is

pub breaks_too : (list : List SchemaChange) → Any (Breaks false) list → Any (Breaks true) list
breaks_too list any = (any.0, any.1, any.2, any.3, change_too any.1.change any.4)

-- an answer the other way round
pub answer_turned : (P : Type 0) (b : Bool) → IsTrue b ↔ P → IsFalse (not b) ↔ P
answer_turned P true is = (λ e. is.0 refl, λ p. refl)
answer_turned P false is = (λ e. absurd (let none : ⊥ = cc in none), λ p. absurd (let yes : false ≡ true = is.1 p in let none : ⊥ = cc in none))

-- if the second answer is no, so is the first
pub no_too : (P Q : Type 0) (a b : Bool) → IsTrue a ↔ P → IsTrue b ↔ Q → (P → Q) → IsTrue (not b) → IsTrue (not a)
no_too P Q false b is also w e = refl
no_too P Q true true is also w e = absurd (let none : ⊥ = cc in none)
no_too P Q true false is also w e = absurd (let yes : false ≡ true = also.1 (w (is.0 refl)) in let none : ⊥ = cc in none)
