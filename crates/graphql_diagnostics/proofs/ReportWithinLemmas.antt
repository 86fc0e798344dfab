-- How what several checks report composes where some of them may push a limit.
use Rattle.std.proofs.Common.{◌≡◌, ◌↔◌, ℕ, ◌+◌, ◌<◌, ◌≤◌, List, [], ◌∷◌, ◌++◌, length, get_or, take, refl, sym, ◌∙◌, subst, All}
use Rattle.std.proofs.lemmas.List.{append-nil, take_all}
use Rattle.std.proofs.lemmas.List.Elements.{All-nil, All-append, All-cons, All-head, All-more, All-weaker}
use Rattle.std.specs.Prelude.{Result, Ok, Err, IsErr, OnOk, OnErr, MatchResult}
use Rattle.std.proofs.lemmas.Result.{MatchResult-from_err}
use Rattle.graphql_diagnostics.proofs.ReportLemmas.{appended_then, both_nil, kept, kept_then}
use Rattle.graphql_documents.proofs.ListLemmas.{All-append_left, All-append_right, more_is}
use Rattle.graphql_diagnostics.specs.Reports.{KeepsReports, Reports, ReportsWithin}

module _ {Entry : Type 0} (IsOfLimit : Entry → Type 0) where
  -- a check without a limit is one whose limit is never passed
  pub within : {P : Type 0} {Q : Entry → Type 0} {old new : List Entry} → Reports P Q old new → ReportsWithin IsOfLimit P Q old new
  within r = record { added = r.added; appended = r.appended; silent = λ _. r.silent; each = r.each }

  -- what checks a rule within a limit keeps the diagnostics
  pub kept_within : {P : Type 0} {Q : Entry → Type 0} {old new : List Entry} → ReportsWithin IsOfLimit P Q old new → KeepsReports Q old new
  kept_within r = record { added = r.added; appended = r.appended; each = r.each }

  -- the limit is passed, and one report says so
  pub passed : (P : Type 0) (Q : Entry → Type 0) (old new : List Entry) (e : Entry) → new ≡ old ++ e ∷ [] → IsOfLimit e → Q e → ReportsWithin IsOfLimit P Q old new
  passed P Q old new e is limit q = record {
    added = e ∷ [];
    appended = is;
    silent = λ none. absurd (All-head (λ x. ¬ IsOfLimit x) e [] none limit);
    each = All-cons Q e [] q (All-nil Q);
  }

  -- two checks, one after another
  pub both_within : {P R : Type 0} {Q : Entry → Type 0} {old mid new : List Entry} →
      ReportsWithin IsOfLimit P Q old mid → ReportsWithin IsOfLimit R Q mid new → ReportsWithin IsOfLimit (P × R) Q old new
  both_within {Q = Q} {old = old} {mid = mid} {new = new} a b = record {
    added = a.added ++ b.added;
    appended = appended_then old mid new a.added b.added a.appended b.appended;
    silent = λ none.
        let first = a.silent (All-append_left (λ e. ¬ IsOfLimit e) a.added b.added none) in
        let second = b.silent (All-append_right (λ e. ¬ IsOfLimit e) a.added b.added none) in (
          λ e. let s = (both_nil a.added b.added).0 e in (first.0 s.0, second.0 s.1),
          λ p. (both_nil a.added b.added).1 (first.1 p.0, second.1 p.1),
        );
    each = All-append Q a.added b.added a.each b.each;
  }

  -- the same rule in other words
  pub in_words_within : {P R : Type 0} {Q : Entry → Type 0} {old new : List Entry} → P ↔ R →
      ReportsWithin IsOfLimit P Q old new → ReportsWithin IsOfLimit R Q old new
  in_words_within w r = record {
    added = r.added;
    appended = r.appended;
    silent = λ none. let s = r.silent none in (λ e. w.0 (s.0 e), λ x. s.1 (w.1 x));
    each = r.each;
  }

  -- the same reports, seen from further off
  pub wider_within : {P : Type 0} {Q Q' : Entry → Type 0} {old new : List Entry} → ((e : Entry) → Q e → Q' e) →
      ReportsWithin IsOfLimit P Q old new → ReportsWithin IsOfLimit P Q' old new
  wider_within {Q = Q} {Q' = Q'} w r = record { added = r.added; appended = r.appended; silent = r.silent; each = All-weaker Q Q' w r.added r.each }

  -- a walk over a list, check by check: none yet, one more, and all
  module _ {X : Type 0} (P : X → Type 0) (Q : Entry → Type 0) (xs : List X) where
    pub walked_none_within : (old : List Entry) → ReportsWithin IsOfLimit (All P (take 0 xs)) Q old old
    walked_none_within old = record { added = []; appended = sym (append-nil old); silent = λ _. (λ _. All-nil P, λ _. refl); each = All-nil Q }

    pub walked_more_within : (i : ℕ) (x : X) (old mid new : List Entry) → i < length xs → x ≡ get_or xs i x →
        ReportsWithin IsOfLimit (All P (take i xs)) Q old mid → ReportsWithin IsOfLimit (P x) Q mid new →
        ReportsWithin IsOfLimit (All P (take (i + 1) xs)) Q old new
    walked_more_within i x old mid new in' item a b =
        in_words_within (
          λ p. All-more P xs i x in' p.0 (subst P item p.1),
          λ (all : All P (take (i + 1) xs)).
              let parts : All P (take i xs ++ x ∷ []) = subst (All P) (more_is xs i x in' item) all in
              (All-append_left P (take i xs) (x ∷ []) parts, All-head P x [] (All-append_right P (take i xs) (x ∷ []) parts)),
        )
        (both_within a b)

    pub walked_all_within : (i : ℕ) (ys : List X) (old new : List Entry) → xs ≡ ys → length xs ≤ i →
        ReportsWithin IsOfLimit (All P (take i xs)) Q old new → ReportsWithin IsOfLimit (All P ys) Q old new
    walked_all_within i ys old new same past r = subst (λ l. ReportsWithin IsOfLimit (All P l) Q old new) (take_all i xs past ∙ same) r

  -- what `ChecksWithin` says, of the diagnostics as lists
  abbrev pub ChecksListWithin : {T E : Type 0} → Result T E → Type 0 → (Entry → Type 0) → List Entry → List Entry → Type 0
  ChecksListWithin r P Q old new = MatchResult r (λ _. ReportsWithin IsOfLimit P Q old new) (λ _. KeepsReports Q old new)

  -- a check without a limit, as one with a limit
  pub checks_within : {T E : Type 0} (r : Result T E) (P : Type 0) (Q Q' : Entry → Type 0) (old new : List Entry) → ((e : Entry) → Q e → Q' e) →
      MatchResult r (λ _. Reports P Q old new) (λ _. KeepsReports Q old new) → ChecksListWithin r P Q' old new
  checks_within (Ok x) P Q Q' old new w c = wider_within w (within c)
  checks_within (Err x) P Q Q' old new w c = record { added = c.added; appended = c.appended; each = All-weaker Q Q' w c.added c.each }

  -- a check that ends by pushing a diagnostic of a limit
  pub checks_limit : {T E : Type 0} (r : Result T E) (P : Type 0) (Q : Entry → Type 0) (old new : List Entry) (e : Entry) →
      OnOk r (new ≡ old ++ e ∷ []) → OnErr r (new ≡ old) → IsOfLimit e → Q e → ChecksListWithin r P Q old new
  checks_limit (Ok x) P Q old new e ok err limit q = passed P Q old new e ok limit q
  checks_limit (Err x) P Q old new e ok err limit q = subst (KeepsReports Q old) (sym err) (kept Q old)

  -- a check that stops at a refusal
  pub checks_refused_within : {T E : Type 0} (r : Result T E) (P : Type 0) (Q : Entry → Type 0) (old new : List Entry) →
      IsErr r → KeepsReports Q old new → ChecksListWithin r P Q old new
  checks_refused_within r P Q old new e k =
      MatchResult-from_err r (λ _. ReportsWithin IsOfLimit P Q old new) (λ _. KeepsReports Q old new) e (λ y. k)

  -- one check after another that answered
  pub checks_after_within : {T E : Type 0} (r : Result T E) (P R : Type 0) (Q : Entry → Type 0) (old mid new : List Entry) →
      ReportsWithin IsOfLimit P Q old mid → ChecksListWithin r R Q mid new → ChecksListWithin r (P × R) Q old new
  checks_after_within (Ok x) P R Q old mid new a b = both_within a b
  checks_after_within (Err x) P R Q old mid new a b = kept_then (kept_within a) b

  -- the same check in other words, which need only agree where it answered
  pub checks_words_within : {T E : Type 0} (r : Result T E) (P R : Type 0) (Q Q' : Entry → Type 0) (old new : List Entry) → OnOk r (P ↔ R) → ((e : Entry) → Q e → Q' e) →
      ChecksListWithin r P Q old new → ChecksListWithin r R Q' old new
  checks_words_within (Ok x) P R Q Q' old new w q c = wider_within q (in_words_within w c)
  checks_words_within (Err x) P R Q Q' old new w q c = record { added = c.added; appended = c.appended; each = All-weaker Q Q' q c.added c.each }
