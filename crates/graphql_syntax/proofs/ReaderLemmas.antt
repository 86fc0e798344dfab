-- Each combinator of readers, from its answer to its parts and back.
use Rattle.std.proofs.Common.{◌≡◌, ℕ, true, false, ◌⊎◌, inl, inr, List, length, Result, Ok, Err, Option, Some, None, refl, sym, subst, ◌∙◌, ap}
use Rattle.graphql_nodes.specs.Names.{NameText}
use Rattle.graphql_nodes.specs.declared.spans.SourceSpan.{SourceSpan}
use Rattle.graphql_tokens.specs.declared.token.TokenKind.TheVariants.{Name}
use Rattle.graphql_tokens.proofs.ScanLemmas.{chosen}
use Rattle.graphql_syntax.specs.declared.refusals.Expected.{Expected}
use Rattle.graphql_syntax.specs.declared.refusals.Refusal.{Refusal}
use Rattle.graphql_syntax.specs.declared.refusals.Refusal.TheVariants.{Unexpected}
use Rattle.graphql_syntax.specs.Inputs.{Input, TokenTest, is_kind, next_passes, behind, start_of, next_text, span_from, between, TakesOne, IsName}
use Rattle.graphql_syntax.specs.Reading.{Reader, answer, refuse, too_deep, and_then, sequence, choose, starting, place, take_one, value_or_refuse, text_with, name_here, name_at}

-- one reader, and then the other
pub sequence_ok : {A B : Type 0} (p : Reader A) (q : A → Reader B) (i : Input) (r : B × Input) → sequence p q i ≡ Ok r →
    (found : A × Input) × (p i ≡ Ok found) × (q found.0 found.1 ≡ Ok r)
unfolding sequence
sequence_ok {A} {B} p q i r e = by (p i) refl e where
  by : (o : Result (A × Input) Refusal) → p i ≡ o → and_then o (λ found. q found.0 found.1) ≡ Ok r → (found : A × Input) × (p i ≡ Ok found) × (q found.0 found.1 ≡ Ok r)
  by (Ok found) s e = (found, s, e)
  by (Err f) s e = absurd (let b : ⊥ = cc in b)

pub sequence_read : {A B : Type 0} (p : Reader A) (q : A → Reader B) (i : Input) (x : A) (m : Input) (r : B × Input) →
    p i ≡ Ok (x, m) → q x m ≡ Ok r → sequence p q i ≡ Ok r
unfolding sequence
sequence_read p q i x m r e f = rw e f

pub sequence_err : {A B : Type 0} (p : Reader A) (q : A → Reader B) (i : Input) (f : Refusal) → sequence p q i ≡ Err f →
    (p i ≡ Err f) ⊎ ((found : A × Input) × (p i ≡ Ok found) × (q found.0 found.1 ≡ Err f))
unfolding sequence
sequence_err {A} {B} p q i f e = by (p i) refl e where
  by : (o : Result (A × Input) Refusal) → p i ≡ o → and_then o (λ found. q found.0 found.1) ≡ Err f →
      (p i ≡ Err f) ⊎ ((found : A × Input) × (p i ≡ Ok found) × (q found.0 found.1 ≡ Err f))
  by (Ok found) s e = inr (found, s, e)
  by (Err g) s e = let same : g ≡ f = cc in inl (s ∙ ap Err same)

pub sequence_fails : {A B : Type 0} (p : Reader A) (q : A → Reader B) (i : Input) (f : Refusal) → p i ≡ Err f → sequence p q i ≡ Err f
unfolding sequence
sequence_fails p q i f e = rw e refl

pub sequence_fails_behind : {A B : Type 0} (p : Reader A) (q : A → Reader B) (i : Input) (x : A) (m : Input) (f : Refusal) →
    p i ≡ Ok (x, m) → q x m ≡ Err f → sequence p q i ≡ Err f
unfolding sequence
sequence_fails_behind p q i x m f a b = rw a b

-- one reader or the other
pub choose_ok : {A : Type 0} (test : TokenTest) (p q : Reader A) (i : Input) (r : A × Input) → choose test p q i ≡ Ok r →
    ((next_passes test i ≡ true) × (p i ≡ Ok r)) ⊎ ((next_passes test i ≡ false) × (q i ≡ Ok r))
unfolding choose
choose_ok test p q i r e = chosen (next_passes test i) (p i) (q i) (Ok r) e

pub choose_err : {A : Type 0} (test : TokenTest) (p q : Reader A) (i : Input) (f : Refusal) → choose test p q i ≡ Err f →
    ((next_passes test i ≡ true) × (p i ≡ Err f)) ⊎ ((next_passes test i ≡ false) × (q i ≡ Err f))
unfolding choose
choose_err test p q i f e = chosen (next_passes test i) (p i) (q i) (Err f) e

pub choose_first : {A : Type 0} (test : TokenTest) (p q : Reader A) (i : Input) → next_passes test i ≡ true → choose test p q i ≡ p i
unfolding choose
choose_first test p q i s = rw s refl

pub choose_second : {A : Type 0} (test : TokenTest) (p q : Reader A) (i : Input) → next_passes test i ≡ false → choose test p q i ≡ q i
unfolding choose
choose_second test p q i s = rw s refl

-- a reader that knows where it began
pub starting_ok : {A : Type 0} (f : ℕ → Reader A) (i : Input) (r : Result (A × Input) Refusal) → starting f i ≡ r → f (start_of i) i ≡ r
unfolding starting
starting_ok f i r e = e

pub starting_read : {A : Type 0} (f : ℕ → Reader A) (i : Input) (r : Result (A × Input) Refusal) → f (start_of i) i ≡ r → starting f i ≡ r
unfolding starting
starting_read f i r e = e

-- what is made of the place that was read, at the end of a rule
pub placed_ok : {A : Type 0} (start : ℕ) (make : SourceSpan → A) (m : Input) (r : A × Input) →
    sequence (place start) (λ span. answer (make span)) m ≡ Ok r → (make (span_from start m) ≡ r.0) × (m ≡ r.1)
unfolding sequence place answer
placed_ok {A} start make m r e = let same : (make (span_from start m), m) ≡ r = cc in (ap (λ (p : A × Input). p.0) same, ap (λ (p : A × Input). p.1) same)

pub placed_is : {A : Type 0} (start : ℕ) (make : SourceSpan → A) (m : Input) (r : A × Input) →
    sequence (place start) (λ span. answer (make span)) m ≡ Ok r → (make (span_from start m), m) ≡ r
unfolding sequence place answer
placed_is start make m r e = cc

pub placed_read : {A : Type 0} (start : ℕ) (make : SourceSpan → A) (m : Input) →
    sequence (place start) (λ span. answer (make span)) m ≡ Ok (make (span_from start m), m)
unfolding sequence place answer
placed_read start make m = refl

pub answer_ok : {A : Type 0} (x : A) (i : Input) (r : A × Input) → answer x i ≡ Ok r → (x ≡ r.0) × (i ≡ r.1)
unfolding answer
answer_ok {A} x i r e = let same : (x, i) ≡ r = cc in (ap (λ (p : A × Input). p.0) same, ap (λ (p : A × Input). p.1) same)

pub answer_is : {A : Type 0} (x : A) (i : Input) (r : A × Input) → answer x i ≡ Ok r → (x, i) ≡ r
unfolding answer
answer_is x i r e = cc

-- what is at what was answered
pub answered : {A : Type 0} (R : A → Input → Type 0) (x : A) (m : Input) (r : A × Input) → answer x m ≡ Ok r → R x m → R r.0 r.1
answered {A} R x m r e is =
    let (same, there) = answer_ok x m r e in
    subst (λ y. R y r.1) same (subst (λ j. R x j) there is)

pub placed : {A : Type 0} (R : A → Input → Type 0) (start : ℕ) (make : SourceSpan → A) (m : Input) (r : A × Input) →
    sequence (place start) (λ span. answer (make span)) m ≡ Ok r → R (make (span_from start m)) m → R r.0 r.1
placed {A} R start make m r e is =
    let (same, there) = placed_ok start make m r e in
    subst (λ y. R y r.1) same (subst (λ j. R (make (span_from start m)) j) there is)

pub answer_read : {A : Type 0} (x : A) (i : Input) → answer x i ≡ Ok (x, i)
unfolding answer
answer_read x i = refl

pub refuse_not_ok : {A : Type 0} (expected : Expected) (i : Input) (r : A × Input) → refuse expected i ≡ Ok r → ⊥
unfolding refuse
refuse_not_ok expected i r e = let b : ⊥ = cc in b

pub too_deep_not_ok : {A : Type 0} (i : Input) (r : A × Input) → too_deep i ≡ Ok r → ⊥
unfolding too_deep
too_deep_not_ok i r e = let b : ⊥ = cc in b

-- one token
pub take_one_ok : (test : TokenTest) (expected : Expected) (i : Input) (r : Unit {0} × Input) → take_one test expected i ≡ Ok r → TakesOne test i r.1
unfolding take_one refuse
take_one_ok test expected i r e = elim (chosen (next_passes test i) (Ok (tt, behind i)) (refuse expected i) (Ok r) e) [
  | inl h ↦ let same : (tt, behind i) ≡ r = let k = h.1 in cc in record { comes = h.0; then_behind = sym (ap (λ (p : Unit {0} × Input). p.1) same) }
  | inr h ↦ absurd (let k = h.1 in let b : ⊥ = cc in b)
]

pub take_one_read : (test : TokenTest) (expected : Expected) (i j : Input) → TakesOne test i j → take_one test expected i ≡ Ok (tt, j)
unfolding take_one
take_one_read test expected i j is = let seen = is.comes in rw seen (ap (λ k. let r : Result (Unit {0} × Input) Refusal = Ok (tt, k) in r) (sym is.then_behind))

pub take_one_err : (test : TokenTest) (expected : Expected) (i : Input) (f : Refusal) → take_one test expected i ≡ Err f →
    (next_passes test i ≡ false) × (f ≡ Unexpected (length i.tokens) expected)
unfolding take_one refuse
take_one_err test expected i f e = elim (chosen (next_passes test i) (Ok (tt, behind i)) (refuse expected i) (Err f) e) [
  | inl h ↦ absurd (let k = h.1 in let b : ⊥ = cc in b)
  | inr h ↦ (h.0, let k = h.1 in cc)
]

pub take_one_fails : (test : TokenTest) (expected : Expected) (i : Input) → next_passes test i ≡ false → take_one test expected i ≡ Err (Unexpected (length i.tokens) expected)
unfolding take_one refuse
take_one_fails test expected i s = rw s refl

-- the text of one token
pub text_with_ok : {A : Type 0} (test : TokenTest) (value : List ℕ → Option A) (expected : Expected) (i : Input) (r : A × Input) →
    text_with test value expected i ≡ Ok r → TakesOne test i r.1 × (value (next_text i) ≡ Some r.0)
unfolding text_with refuse
text_with_ok {A} test value expected i r e = elim (chosen (next_passes test i) (value_or_refuse (value (next_text i)) expected i) (refuse expected i) (Ok r) e) [
  | inl h ↦ by (value (next_text i)) refl h.0 h.1
  | inr h ↦ absurd (let k = h.1 in let b : ⊥ = cc in b)
] where
  by : (o : Option A) → value (next_text i) ≡ o → next_passes test i ≡ true → value_or_refuse o expected i ≡ Ok r → TakesOne test i r.1 × (value (next_text i) ≡ Some r.0)
  by None s t e = absurd (let b : ⊥ = cc in b)
  by (Some x) s t e =
      let same : (x, behind i) ≡ r = cc in
      (record { comes = t; then_behind = sym (ap (λ (p : A × Input). p.1) same) }, s ∙ ap (λ (p : A × Input). Some p.0) same)

pub text_with_read : {A : Type 0} (test : TokenTest) (value : List ℕ → Option A) (expected : Expected) (i j : Input) (x : A) →
    TakesOne test i j → value (next_text i) ≡ Some x → text_with test value expected i ≡ Ok (x, j)
unfolding text_with
text_with_read {A} test value expected i j x is e =
    let seen = is.comes in rw (seen, e) (ap (λ k. let r : Result (A × Input) Refusal = Ok (x, k) in r) (sym is.then_behind))

-- a name
pub name_ok : (i : Input) (r : NameText × Input) → name_at i ≡ Ok r → IsName i r.0 r.1
unfolding name_at refuse
name_ok i r e = elim (chosen (next_passes (is_kind Name) i) (Ok (name_here i, behind i)) (refuse _ i) (Ok r) e) [
  | inl h ↦
      let same : (name_here i, behind i) ≡ r = let k = h.1 in cc in
      subst (λ (q : NameText × Input). IsName i q.0 q.1) same
      (record { takes = record { comes = h.0; then_behind = refl }; text = refl; location = refl })
  | inr h ↦ absurd (let k = h.1 in let b : ⊥ = cc in b)
]

pub name_read : (i : Input) (name : NameText) (j : Input) → IsName i name j → name_at i ≡ Ok (name, j)
unfolding name_at
name_read i name j is =
    let seen = is.takes.comes in
    let there : name.location ≡ Some (between i (behind i)) = is.location ∙ ap (λ k. Some (between i k)) is.takes.then_behind in
    let same : name ≡ name_here i = name_of name.text name.location (next_text i) (Some (between i (behind i))) is.text there in
    rw seen (ap Ok (pair_of (name_here i) name (behind i) j (sym same) (sym is.takes.then_behind))) where
      name_of : (a : List ℕ) (l : Option SourceSpan) (b : List ℕ) (m : Option SourceSpan) → a ≡ b → l ≡ m → ◌≡◌ {A = NameText} (record { text = a; location = l }) (record { text = b; location = m })
      name_of a l b m e f = ap (λ x. let r : NameText = record { text = x; location = l } in r) e ∙ ap (λ x. let r : NameText = record { text = b; location = x } in r) f

      pair_of : (a b : NameText) (c d : Input) → a ≡ b → c ≡ d → ◌≡◌ {A = NameText × Input} (a, c) (b, d)
      pair_of a b c d e f = ap (λ x. let r : NameText × Input = (x, c) in r) e ∙ ap (λ x. let r : NameText × Input = (b, x) in r) f
