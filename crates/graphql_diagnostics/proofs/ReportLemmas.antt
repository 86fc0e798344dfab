-- How what several checks report composes. Each check of a rule cites these.
use Rattle.std.proofs.Common.{◌≡◌, ◌↔◌, ℕ, ◌+◌, ◌<◌, ◌≤◌, List, [], ◌∷◌, ◌++◌, length, get_or, take, refl, sym, ◌∙◌, ap, subst, All}
use Rattle.std.proofs.lemmas.List.{append-nil, append_assoc, take_all}
use Rattle.std.proofs.lemmas.List.Elements.{All-nil, All-append, All-cons, All-head, All-more, All-weaker}
use Rattle.std.specs.Prelude.{Result, Ok, Err, IsErr, OnOk, OnErr, MatchResult}
use Rattle.std.proofs.lemmas.Result.{MatchResult-from_err}
use Rattle.graphql_documents.proofs.ListLemmas.{All-append_left, All-append_right, more_is}
use Rattle.graphql_diagnostics.specs.Reports.{Appends, Reports, KeepsReports}

module _ {Entry : Type 0} where
  -- two lists that make an empty one are empty
  pub both_nil : (xs ys : List Entry) → (xs ++ ys ≡ []) ↔ ((xs ≡ []) × (ys ≡ []))
  both_nil [] ys = (λ e. (refl, e), λ p. p.1)
  both_nil (x ∷ xs) ys = (
    λ (e : x ∷ (xs ++ ys) ≡ []). absurd (let h : ⊥ = cc in h),
    λ (p : (x ∷ xs ≡ []) × (ys ≡ [])). absurd (let h : ⊥ = cc in h),
  )

  -- what was added in two steps was added
  pub appended_then : (old mid new xs ys : List Entry) → mid ≡ old ++ xs → new ≡ mid ++ ys → new ≡ old ++ (xs ++ ys)
  appended_then old mid new xs ys a b = b ∙ ap (λ l. l ++ ys) a ∙ append_assoc old xs ys

  -- one call after another
  pub kept_then : {Q : Entry → Type 0} {old mid new : List Entry} → KeepsReports Q old mid → KeepsReports Q mid new → KeepsReports Q old new
  kept_then {Q} {old} {mid} {new} a b = record {
    added = a.added ++ b.added;
    appended = appended_then old mid new a.added b.added a.appended b.appended;
    each = All-append Q a.added b.added a.each b.each;
  }

  -- what checks a rule keeps the diagnostics
  pub kept_by : {Q : Entry → Type 0} {P : Type 0} {old new : List Entry} → Reports P Q old new → KeepsReports Q old new
  kept_by r = record { added = r.added; appended = r.appended; each = r.each }

  -- two checks, one after another
  pub both : {Q : Entry → Type 0} {P R : Type 0} {old mid new : List Entry} → Reports P Q old mid → Reports R Q mid new → Reports (P × R) Q old new
  both {Q} {old = old} {mid = mid} {new = new} a b = record {
    added = a.added ++ b.added;
    appended = appended_then old mid new a.added b.added a.appended b.appended;
    silent = (
      λ e. let s = (both_nil a.added b.added).0 e in (a.silent.0 s.0, b.silent.0 s.1),
      λ p. (both_nil a.added b.added).1 (a.silent.1 p.0, b.silent.1 p.1),
    );
    each = All-append Q a.added b.added a.each b.each;
  }

  -- the same rule in other words
  pub in_words : {Q : Entry → Type 0} {P R : Type 0} {old new : List Entry} → P ↔ R → Reports P Q old new → Reports R Q old new
  in_words w r = record { added = r.added; appended = r.appended; silent = (λ e. w.0 (r.silent.0 e), λ x. r.silent.1 (w.1 x)); each = r.each }

  module _ (Q : Entry → Type 0) where
    -- nothing was done
    pub kept : (old : List Entry) → KeepsReports Q old old
    kept old = record { added = []; appended = sym (append-nil old); each = All-nil Q }

    -- the rule holds, and nothing was reported
    pub holds : (P : Type 0) (old : List Entry) → P → Reports P Q old old
    holds P old p = record { added = []; appended = sym (append-nil old); silent = (λ _. p, λ _. refl); each = All-nil Q }

    -- the rule is broken, and one report says so
    pub broken : (P : Type 0) (old new : List Entry) (e : Entry) → new ≡ old ++ e ∷ [] → ¬ P → Q e → Reports P Q old new
    broken P old new e is n q = record { added = e ∷ []; appended = is; silent = (λ (h : e ∷ [] ≡ []). absurd (let h' : ⊥ = cc in h'), λ p. absurd (n p)); each = All-cons Q e [] q (All-nil Q) }

  -- a walk over a list, check by check: none yet, one more, and all
  module _ {X : Type 0} (P : X → Type 0) (Q : Entry → Type 0) (xs : List X) where
    pub walked_none : (old : List Entry) → Reports (All P (take 0 xs)) Q old old
    walked_none old = holds Q (All P (take 0 xs)) old (All-nil P)

    pub walked_more : (i : ℕ) (x : X) (old mid new : List Entry) → i < length xs → x ≡ get_or xs i x →
        Reports (All P (take i xs)) Q old mid → Reports (P x) Q mid new → Reports (All P (take (i + 1) xs)) Q old new
    walked_more i x old mid new within item a b =
        in_words (
          λ p. All-more P xs i x within p.0 (subst P item p.1),
          λ (all : All P (take (i + 1) xs)).
              let parts : All P (take i xs ++ x ∷ []) = subst (All P) (more_is xs i x within item) all in
              (All-append_left P (take i xs) (x ∷ []) parts, All-head P x [] (All-append_right P (take i xs) (x ∷ []) parts)),
        )
        (both a b)

    pub walked_all : (i : ℕ) (ys : List X) (old new : List Entry) → xs ≡ ys → length xs ≤ i →
        Reports (All P (take i xs)) Q old new → Reports (All P ys) Q old new
    walked_all i ys old new same past r = subst (λ l. Reports (All P l) Q old new) (take_all i xs past ∙ same) r

  -- the same reports, seen from further off
  pub kept_wider : {Q Q' : Entry → Type 0} {old new : List Entry} → ((e : Entry) → Q e → Q' e) → KeepsReports Q old new → KeepsReports Q' old new
  kept_wider {Q} {Q'} w r = record { added = r.added; appended = r.appended; each = All-weaker Q Q' w r.added r.each }

  pub wider : {P : Type 0} {Q Q' : Entry → Type 0} {old new : List Entry} → ((e : Entry) → Q e → Q' e) → Reports P Q old new → Reports P Q' old new
  wider {Q = Q} {Q' = Q'} w r = record { added = r.added; appended = r.appended; silent = r.silent; each = All-weaker Q Q' w r.added r.each }

-- what `Checks` says, of the diagnostics as lists
abbrev pub ChecksList : {T E Entry : Type 0} → Result T E → Type 0 → (Entry → Type 0) → List Entry → List Entry → Type 0
ChecksList r P Q old new = MatchResult r (λ _. Reports P Q old new) (λ _. KeepsReports Q old new)

-- a check that ends by pushing a diagnostic of the rule that is broken
pub checks-push : {T E Entry : Type 0} (r : Result T E) (P : Type 0) (Q : Entry → Type 0) (old new : List Entry) (e : Entry) →
    OnOk r (new ≡ old ++ e ∷ []) → OnErr r (new ≡ old) → ¬ P → Q e → ChecksList r P Q old new
checks-push (Ok x) P Q old new e ok err n q = broken Q P old new e ok n q
checks-push (Err x) P Q old new e ok err n q = subst (KeepsReports Q old) (sym err) (kept Q old)

-- a check that stops at a refusal
pub checks-err : {T E Entry : Type 0} (r : Result T E) (P : Type 0) (Q : Entry → Type 0) (old new : List Entry) →
    IsErr r → KeepsReports Q old new → ChecksList r P Q old new
checks-err r P Q old new e k = MatchResult-from_err r (λ _. Reports P Q old new) (λ _. KeepsReports Q old new) e (λ y. k)

-- a check keeps the diagnostics, whatever it answers
pub kept_by_check : {T E Entry : Type 0} (r : Result T E) (P : Type 0) (Q : Entry → Type 0) (old new : List Entry) →
    ChecksList r P Q old new → KeepsReports Q old new
kept_by_check (Ok x) P Q old new h = kept_by h
kept_by_check (Err x) P Q old new h = h

module _ {T E Entry : Type 0} where
  -- the same check in other words
  pub checks_words : (r : Result T E) (P R : Type 0) (Q Q' : Entry → Type 0) (old new : List Entry) → P ↔ R → ((e : Entry) → Q e → Q' e) →
      ChecksList r P Q old new → ChecksList r R Q' old new
  checks_words (Ok x) P R Q Q' old new w q c = wider q (in_words w c)
  checks_words (Err x) P R Q Q' old new w q c = kept_wider q c

  -- one check after another that answered
  pub checks_after : (r : Result T E) (P R : Type 0) (Q : Entry → Type 0) (old mid new : List Entry) →
      Reports P Q old mid → ChecksList r R Q mid new → ChecksList r (P × R) Q old new
  checks_after (Ok x) P R Q old mid new a b = both a b
  checks_after (Err x) P R Q old mid new a b = kept_then (kept_by a) b

-- one element more of which something is checked
pub done_more : {Entry X : Type 0} (P : X → Type 0) (Q : Entry → Type 0) (done : List X) (x : X) (old mid new : List Entry) →
    Reports (All P done) Q old mid → Reports (P x) Q mid new → Reports (All P (done ++ x ∷ [])) Q old new
done_more P Q done x old mid new a b =
    in_words (
      λ p. All-append P done (x ∷ []) p.0 (All-cons P x [] p.1 (All-nil P)),
      λ all. (All-append_left P done (x ∷ []) all, All-head P x [] (All-append_right P done (x ∷ []) all)),
    )
    (both a b)

-- a call that answers, in other words
pub on_ok : {T E : Type 0} (r : Result T E) (A B : Type 0) → (A → B) → OnOk r A → OnOk r B
on_ok (Ok x) A B w a = w a
on_ok (Err x) A B w a = a

-- one entry more, or none
pub appends_on_ok : {T E Entry : Type 0} (r : Result T E) (Are : List Entry → Type 0) (old new : List Entry) {e : Entry} →
    OnOk r (new ≡ old ++ e ∷ []) → OnErr r (new ≡ old) → Are (e ∷ []) → MatchResult r (λ _. Appends Are old new) (λ _. new ≡ old)
appends_on_ok (Ok x) Are old new {e} ok err are = record { added = e ∷ []; appended = ok; are = are }
appends_on_ok (Err x) Are old new {e} ok err are = err
