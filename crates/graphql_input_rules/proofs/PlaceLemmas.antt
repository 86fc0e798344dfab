-- How checks of object values compose over the places where values are written.
use Rattle.std.proofs.Common.{◌≡◌, ◌↔◌, ℕ, ◌+◌, ◌<◌, ◌≤◌, List, [], ◌∷◌, ◌++◌, length, get_or, take, refl, sym, ap, ◌∙◌, subst, All, Contains, Vec}
use Rattle.std.specs.Prelude.{Any, Result, IsErr, ◌⊎◌}
use Rattle.std.specs.declared.alloc.Global.{Global}
use Rattle.std.proofs.lemmas.List.{append-nil}
use Rattle.std.proofs.lemmas.List.Elements.{All-contains, All-nil}
use mathlib.Core.Logic.{inl, inr}
use Rattle.graphql_nodes.specs.Names.{NameText}
use Rattle.graphql_nodes.specs.declared.nodes.Node.{Node}
use Rattle.graphql_documents.specs.declared.documents.values.Value.{Value}
use Rattle.graphql_documents.specs.declared.documents.values.Value.TheVariants as literal
use Rattle.graphql_documents.proofs.ListLemmas.{done_next, each_standing, stands_next}
use Rattle.graphql_diagnostics.specs.Reports.{KeepsReports, Reports}
use Rattle.graphql_diagnostics.proofs.ReportLemmas.{ChecksList, both, checks-err, checks_after, checks_words, done_more, holds, in_words, kept_by, kept_then, kept_wider, walked_all, walked_more, walked_none, wider}
use Rattle.graphql_variables.proofs.FirstPlaceLemmas.{next_at, next_stands}
use Rattle.graphql_variables.proofs.UseLemmas.{any_has, has_any}
use Rattle.graphql_input_rules.specs.InputFields.{FieldReport, FieldsAreUnique}
use Rattle.graphql_input_rules.specs.declared.reports.InputFieldRepetition.{InputFieldRepetition}

-- a call checks the object values that are written at a place
abbrev pub Checked : {T E : Type 0} → Result T E → (Value → Type 0) → List InputFieldRepetition → List InputFieldRepetition → Type 0
Checked r P old new = ChecksList r (FieldsAreUnique P) (FieldReport P) old new

abbrev pub Reported : (Value → Type 0) → List InputFieldRepetition → List InputFieldRepetition → Type 0
Reported P old new = Reports (FieldsAreUnique P) (FieldReport P) old new

-- what is reported of a place is so of a wider one
pub moved : {P Q : Value → Type 0} → ((v : Value) → P v → Q v) → (x : InputFieldRepetition) → FieldReport P x → FieldReport Q x
moved to x report = record { entries = report.entries; written = to (literal.Object report.entries) report.written; repetition = report.repetition }

-- the same object values in other words
pub in_places : {T E : Type 0} (r : Result T E) (P Q : Value → Type 0) (old new : List InputFieldRepetition) →
    ((v : Value) → P v → Q v) → ((e : Vec (NameText × Node Value) Global) → Q (literal.Object e) → P (literal.Object e)) →
    Checked r P old new → Checked r Q old new
in_places r P Q old new to back c =
    checks_words r (FieldsAreUnique P) (FieldsAreUnique Q) (FieldReport P) (FieldReport Q) old new
    (λ u e q. u e (back e q), λ u e p. u e (to (literal.Object e) p)) (moved to) c

pub reported_in : (P Q : Value → Type 0) (old new : List InputFieldRepetition) →
    ((v : Value) → P v → Q v) → ((e : Vec (NameText × Node Value) Global) → Q (literal.Object e) → P (literal.Object e)) →
    Reported P old new → Reported Q old new
reported_in P Q old new to back c = in_words (λ u e q. u e (back e q), λ u e p. u e (to (literal.Object e) p)) (wider (moved to) c)

-- two places
unique_both : (P Q : Value → Type 0) → (FieldsAreUnique P × FieldsAreUnique Q) ↔ FieldsAreUnique (λ v. P v ⊎ Q v)
unique_both P Q = (
  λ u e w. elim w [
    | inl p ↦ u.0 e p
    | inr q ↦ u.1 e q
  ],
  λ u. (λ e p. u e (inl p), λ e q. u e (inr q)),
)

pub then_checked : {T E : Type 0} (r : Result T E) (P Q : Value → Type 0) (old mid new : List InputFieldRepetition) →
    Reports (FieldsAreUnique P) (FieldReport P) old mid → Checked r Q mid new → Checked r (λ v. P v ⊎ Q v) old new
then_checked r P Q old mid new a b =
    checks_words r (FieldsAreUnique P × FieldsAreUnique Q) (FieldsAreUnique (λ v. P v ⊎ Q v)) (FieldReport (λ v. P v ⊎ Q v)) (FieldReport (λ v. P v ⊎ Q v)) old new
    (unique_both P Q) (λ x q. q)
    (checks_after r (FieldsAreUnique P) (FieldsAreUnique Q) (FieldReport (λ v. P v ⊎ Q v)) old mid new (wider (moved (λ v p. inl p)) a)
    (checks_words r (FieldsAreUnique Q) (FieldsAreUnique Q) (FieldReport Q) (FieldReport (λ v. P v ⊎ Q v)) mid new (λ u. u, λ u. u) (moved (λ v q. inr q)) b))

pub then_reported : (P Q : Value → Type 0) (old mid new : List InputFieldRepetition) →
    Reports (FieldsAreUnique P) (FieldReport P) old mid → Reports (FieldsAreUnique Q) (FieldReport Q) mid new →
    Reports (FieldsAreUnique (λ v. P v ⊎ Q v)) (FieldReport (λ v. P v ⊎ Q v)) old new
then_reported P Q old mid new a b = in_words (unique_both P Q) (both (wider (moved (λ v p. inl p)) a) (wider (moved (λ v q. inr q)) b))

-- a refusal at the first place, and at the second
pub first_refused : {T E : Type 0} (r : Result T E) (P Q : Value → Type 0) (old new : List InputFieldRepetition) →
    IsErr r → KeepsReports (FieldReport P) old new → Checked r (λ v. P v ⊎ Q v) old new
first_refused r P Q old new e k = checks-err r _ _ old new e (kept_wider (moved (λ v p. inl p)) k)

pub second_refused : {T E : Type 0} (r : Result T E) (P Q : Value → Type 0) (old mid new : List InputFieldRepetition) →
    IsErr r → Reports (FieldsAreUnique P) (FieldReport P) old mid → KeepsReports (FieldReport Q) mid new → Checked r (λ v. P v ⊎ Q v) old new
second_refused r P Q old mid new e a k =
    checks-err r _ _ old new e (kept_then (kept_wider (moved (λ v p. inl p)) (kept_by a)) (kept_wider (moved (λ v q. inr q)) k))

-- a walk over a list of places
module _ {X : Type 0} (In : X → Value → Type 0) (xs : List X) where
  -- at one of them
  abbrev pub Among : Value → Type 0
  Among v = Any (λ x. In x v) xs

  -- those so far hold
  abbrev pub WalkedTo : List X → List InputFieldRepetition → List InputFieldRepetition → Type 0
  WalkedTo done old new = Reports (All (λ x. FieldsAreUnique (In x)) done) (FieldReport Among) old new

  pub among : (x : X) → Contains xs x → (v : Value) → In x v → Among v
  among x stands v p = has_any (λ x. In x v) xs x stands p

  pub all_unique : All (λ x. FieldsAreUnique (In x)) xs ↔ FieldsAreUnique Among
  all_unique = (
    λ all e any.
        let h = any_has (λ x. In x (literal.Object e)) xs any in
        All-contains (λ x. FieldsAreUnique (In x)) xs h.0 all h.1 e h.2,
    λ u. each_standing (λ x. FieldsAreUnique (In x)) xs (λ x stands e p. u e (among x stands (literal.Object e) p)),
  )

  pub places_none : (old : List InputFieldRepetition) → WalkedTo (take 0 xs) old old
  places_none old = walked_none (λ x. FieldsAreUnique (In x)) (FieldReport Among) xs old

  pub places_more : (i : ℕ) (x : X) (old mid new : List InputFieldRepetition) → i < length xs → x ≡ get_or xs i x →
      WalkedTo (take i xs) old mid → Reports (FieldsAreUnique (In x)) (FieldReport (In x)) mid new → WalkedTo (take (i + 1) xs) old new
  places_more i x old mid new within item a b =
      walked_more (λ x. FieldsAreUnique (In x)) (FieldReport Among) xs i x old mid new within item a
      (wider (moved (among x (next_stands (next_at xs i x within item)))) b)

  pub places_all : (i : ℕ) (old new : List InputFieldRepetition) → length xs ≤ i →
      WalkedTo (take i xs) old new → Reports (FieldsAreUnique Among) (FieldReport Among) old new
  places_all i old new past a = in_words all_unique (walked_all (λ x. FieldsAreUnique (In x)) (FieldReport Among) xs i xs old new refl past a)

  pub place_refused : {T E : Type 0} (r : Result T E) (done : List X) (x : X) (old mid new : List InputFieldRepetition) → IsErr r → Contains xs x →
      WalkedTo done old mid → KeepsReports (FieldReport (In x)) mid new → Checked r Among old new
  place_refused r done x old mid new e stands a k =
      checks-err r _ _ old new e (kept_then (kept_by a) (kept_wider (moved (among x stands)) k))

  nothing_done : (old : List InputFieldRepetition) → WalkedTo [] old old
  nothing_done old = holds (FieldReport Among) (All (λ x. FieldsAreUnique (In x)) []) old (All-nil (λ x. FieldsAreUnique (In x)))

  place_done : (done : List X) (x : X) (old mid new : List InputFieldRepetition) → Contains xs x →
      WalkedTo done old mid → Reports (FieldsAreUnique (In x)) (FieldReport (In x)) mid new → WalkedTo (done ++ x ∷ []) old new
  place_done done x old mid new stands a b =
      done_more (λ x. FieldsAreUnique (In x)) (FieldReport Among) done x old mid new a (wider (moved (among x stands)) b)

  all_done : (done : List X) (old new : List InputFieldRepetition) → xs ≡ done → WalkedTo done old new → Reports (FieldsAreUnique Among) (FieldReport Among) old new
  all_done done old new same a = in_words all_unique (subst (λ l. WalkedTo l old new) (sym same) a)

  -- a walk with the places that are left before it
  pub record Walking (left : List X) (old new : List InputFieldRepetition) : Type 0 where
    pub done : List X
    pub split : xs ≡ done ++ left
    pub reported : WalkedTo done old new

  pub walk_begins : (left : List X) (old : List InputFieldRepetition) → xs ≡ left → Walking left old old
  walk_begins left old is = record { done = []; split = is; reported = nothing_done old }

  -- at the first of those that are left
  module _ (left rest : List X) (x : X) (old mid new : List InputFieldRepetition) (next : left ≡ x ∷ rest) (walk : Walking left old mid) where
    stands : Contains xs x
    stands = stands_next xs walk.done left rest x walk.split next

    pub walk_goes_on : Reports (FieldsAreUnique (In x)) (FieldReport (In x)) mid new → Walking rest old new
    walk_goes_on b = record {
      done = walk.done ++ x ∷ [];
      split = done_next xs walk.done left rest x walk.split next;
      reported = place_done walk.done x old mid new stands walk.reported b;
    }

    pub walk_refused : {T E : Type 0} (r : Result T E) → IsErr r → KeepsReports (FieldReport (In x)) mid new → Checked r Among old new
    walk_refused r e k = place_refused r walk.done x old mid new e stands walk.reported k

  pub walk_ends : (left : List X) (old new : List InputFieldRepetition) → left ≡ [] → Walking left old new → Reports (FieldsAreUnique Among) (FieldReport Among) old new
  walk_ends left old new none walk =
      all_done walk.done old new (walk.split ∙ ap (λ l. walk.done ++ l) none ∙ append-nil walk.done) walk.reported
