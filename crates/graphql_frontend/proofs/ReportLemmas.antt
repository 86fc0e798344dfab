-- What a list that began empty says of a rule.
use Rattle.std.proofs.Common.{◌≡◌, ◌≢◌, ◌↔◌, List, [], ◌++◌, Ok, Err, Result, sym, subst, ◌∙◌, All}
use Rattle.std.specs.Prelude.{IfOk}
use Rattle.std.proofs.lemmas.List.Elements.{All-nil}
use Rattle.graphql_diagnostics.specs.Reports.{Appends, KeepsReports, Reports, ReportsWithin}

-- what follows for what is answered
pub if_ok : {T E : Type 0} (P Q : T → Type 0) → ((x : T) → P x → Q x) → (r : Result T E) → IfOk r P → IfOk r Q
if_ok P Q f (Ok x) p = f x p
if_ok P Q f (Err e) p = tt

module _ {Entry : Type 0} where
  added_is : (old added new : List Entry) → new ≡ old ++ added → old ≡ [] → new ≡ added
  added_is old added new e none = subst (λ l. new ≡ l ++ added) none e

  pub silent : (H : Type 0) (Q : Entry → Type 0) (old new : List Entry) → Reports H Q old new → old ≡ [] → new ≡ [] → H
  silent H Q old new r none empty = r.silent.0 (sym (added_is old r.added new r.appended none) ∙ empty)

  pub broken : (H : Type 0) (Q : Entry → Type 0) (old new : List Entry) → Reports H Q old new → old ≡ [] → new ≢ [] → ¬ H
  broken H Q old new r none full h = full (added_is old r.added new r.appended none ∙ r.silent.1 h)

  pub decides : (H : Type 0) (Q : Entry → Type 0) (old new : List Entry) → Reports H Q old new → old ≡ [] → (new ≡ []) ↔ H
  decides H Q old new r none = (silent H Q old new r none, λ h. added_is old r.added new r.appended none ∙ r.silent.1 h)

  pub each_true : (H : Type 0) (Q : Entry → Type 0) (old new : List Entry) → Reports H Q old new → old ≡ [] → All Q new
  each_true H Q old new r none = subst (All Q) (sym (added_is old r.added new r.appended none)) r.each

  pub silent_within : (L : Entry → Type 0) (H : Type 0) (Q : Entry → Type 0) (old new : List Entry) → ReportsWithin L H Q old new → old ≡ [] → new ≡ [] → H
  silent_within L H Q old new r none empty =
      let nothing : r.added ≡ [] = sym (added_is old r.added new r.appended none) ∙ empty in
      (r.silent (subst (All (λ e. ¬ L e)) (sym nothing) (All-nil (λ e. ¬ L e)))).0 nothing

  pub decides_within : (L : Entry → Type 0) (H : Type 0) (Q : Entry → Type 0) (old new : List Entry) → ReportsWithin L H Q old new → old ≡ [] →
      All (λ e. ¬ L e) new → (new ≡ []) ↔ H
  decides_within L H Q old new r none no_limit =
      let same = added_is old r.added new r.appended none in
      subst (λ l. (l ≡ []) ↔ H) (sym same) (r.silent (subst (All (λ e. ¬ L e)) same no_limit))

  pub each_within : (L : Entry → Type 0) (H : Type 0) (Q : Entry → Type 0) (old new : List Entry) → ReportsWithin L H Q old new → old ≡ [] → All Q new
  each_within L H Q old new r none = subst (All Q) (sym (added_is old r.added new r.appended none)) r.each

  pub kept : (Q : Entry → Type 0) (old new : List Entry) → KeepsReports Q old new → old ≡ [] → All Q new
  kept Q old new r none = subst (All Q) (sym (added_is old r.added new r.appended none)) r.each

  pub appended : (Are : List Entry → Type 0) (old new : List Entry) → Appends Are old new → old ≡ [] → Are new
  appended Are old new r none = subst Are (sym (added_is old r.added new r.appended none)) r.are
