-- What is read one after another is as many as the grammar has, and they are read.
use Rattle.std.proofs.Common.{◌≡◌, ℕ, zero, suc, ◌-◌, ◌<◌, ◌≤◌, true, false, inl, inr, List, [], ◌∷◌, ◌++◌, length, Ok, Err, refl, sym, subst, ◌∙◌, ap, arith, append-nil, take, ◌+◌, Result}
use Rattle.std.proofs.lemmas.List.{append_assoc, length-append, length-take-le}
use Rattle.graphql_tokens.specs.declared.token.Token.{Token}
use Rattle.graphql_syntax.specs.declared.refusals.Expected.{Expected}
use Rattle.graphql_syntax.specs.declared.refusals.Refusal.{Refusal}
use Rattle.graphql_syntax.specs.declared.refusals.Refusal.TheVariants.{Unexpected}
use Rattle.graphql_syntax.specs.Inputs.{Input, TokenTest, next_passes}
use Rattle.graphql_syntax.specs.Many.{Many, nothing, more, Some1, some}
use Rattle.graphql_syntax.specs.Reading.{Reader, answer, sequence, choose, starting, many_from, many_behind, some_of}
use Rattle.graphql_syntax.proofs.Locality.{changed, with_others, Refuses, Near, Local, Moves, same_next, local_sequence, local_choose, local_answer}
use Rattle.graphql_syntax.proofs.ManyLemmas.{one_more, no_more}
use Rattle.graphql_syntax.proofs.ReaderLemmas.{sequence_ok, sequence_read, sequence_err, choose_ok, choose_err, answer_ok}

-- those found, and one of the rest more
one_longer : {A : Type 0} (found xs : List A) (x : A) → (found ++ x ∷ []) ++ xs ≡ found ++ x ∷ xs
one_longer found xs x = append_assoc found (x ∷ []) xs

pub many_from_sound : {A : Type 0} (R : Input → A → Input → Type 0) (test : TokenTest) (item : Reader A) → ((i : Input) (r : A × Input) → item i ≡ Ok r → R i r.0 r.1) →
    (turns : ℕ) (found : List A) (i : Input) (r : List A × Input) → many_from test item turns found i ≡ Ok r →
    (xs : List A) × (r.0 ≡ found ++ xs) × Many R i xs r.1
unfolding many_from
many_from_sound R test item sound zero found i r e =
    let (same, there) = answer_ok found i r e in
    ([], sym same ∙ sym (append-nil found), subst (λ j. Many R i [] j) there (nothing i))
many_from_sound {A} R test item sound (suc turns) found i r e = elim (choose_ok test _ _ i r e) [
  | inl h ↦
      let (m, em, e1) = sequence_ok item _ i r h.1 in
      let (xs, same, are) = many_from_sound R test item sound turns (found ++ m.0 ∷ []) m.1 r e1 in
      (m.0 ∷ xs, same ∙ one_longer found xs m.0, more i m.1 r.1 m.0 xs (sound i m em) are)
  | inr h ↦
      let (same, there) = answer_ok found i r h.1 in
      ([], sym same ∙ sym (append-nil found), subst (λ j. Many R i [] j) there (nothing i))
]

pub many_sound : {A : Type 0} (R : Input → A → Input → Type 0) (test : TokenTest) (item : Reader A) → ((i : Input) (r : A × Input) → item i ≡ Ok r → R i r.0 r.1) →
    (i : Input) (r : List A × Input) → many_behind test item [] i ≡ Ok r → Many R i r.0 r.1
unfolding many_behind
many_sound R test item sound i r e =
    let (xs, same, are) = many_from_sound R test item sound (length i.tokens) [] i r e in
    subst (λ ys. Many R i ys r.1) (sym same) are

pub some_sound : {A : Type 0} (R : Input → A → Input → Type 0) (test : TokenTest) (item : Reader A) → ((i : Input) (r : A × Input) → item i ≡ Ok r → R i r.0 r.1) →
    (i : Input) (r : List A × Input) → some_of test item i ≡ Ok r → Some1 R i r.0 r.1
unfolding some_of many_behind
some_sound R test item sound i r e =
    let (m, em, e1) = sequence_ok item _ i r e in
    let (xs, same, are) = many_from_sound R test item sound (length m.1.tokens) (m.0 ∷ []) m.1 r e1 in
    subst (λ ys. Some1 R i ys r.1) (sym same) (some i m.1 r.1 m.0 xs (sound i m em) are)

-- a reader of one that reads it where F may follow; one begins with a token that passes, where F
pub record Item {A : Type 0} (R : Input → A → Input → Type 0) (test : TokenTest) (item : Reader A) (F : Input → Type 0) : Type 0 where
  pub reads : (i : Input) (x : A) (j : Input) → R i x j → F j → item i ≡ Ok (x, j)
  pub passes : (i : Input) (x : A) (j : Input) → R i x j → next_passes test i ≡ true
  pub follows : (i : Input) (x : A) (j : Input) → R i x j → F i
  pub moves : (i : Input) (x : A) (j : Input) → R i x j → length j.tokens < length i.tokens

-- nothing is asked of what follows
abbrev pub Anything : Input → Type 0
Anything i = Unit {0}

pub many_follows : {A : Type 0} (R : Input → A → Input → Type 0) (test : TokenTest) (item : Reader A) (F : Input → Type 0) → Item R test item F →
    (i : Input) (xs : List A) (j : Input) → Many R i xs j → F j → F i
many_follows R test item F one _ _ _ (nothing i) f = f
many_follows R test item F one _ _ _ (more i m j x xs is are) f = one.follows i x m is

pub many_from_read : {A : Type 0} (R : Input → A → Input → Type 0) (test : TokenTest) (item : Reader A) (F : Input → Type 0) → Item R test item F →
    (turns : ℕ) (found : List A) (i : Input) (xs : List A) (j : Input) → Many R i xs j → length i.tokens ≤ turns → F j → next_passes test j ≡ false →
    many_from test item turns found i ≡ Ok (found ++ xs, j)
many_from_read {A} R test item F one turns found _ _ _ (nothing i) n f s =
    no_more test item turns found i s ∙ ap (λ l. ok l i) (sym (append-nil found)) where
      ok : List A → Input → Result (List A × Input) Refusal
      ok l i = Ok (l, i)
many_from_read {A} R test item F one turns found _ _ _ (more i m j x xs is are) n f s =
    let less = one.moves i x m is in
    let there = one.reads i x m is (many_follows R test item F one m xs j are f) in
    one_more test item turns found i x m (one.passes i x m is) (omega arith) there ∙
    many_from_read R test item F one (turns - 1) (found ++ x ∷ []) m xs j are (omega arith) f s ∙
    ap (λ l. ok l j) (one_longer found xs x) where
      ok : List A → Input → Result (List A × Input) Refusal
      ok l i = Ok (l, i)

pub many_read : {A : Type 0} (R : Input → A → Input → Type 0) (test : TokenTest) (item : Reader A) (F : Input → Type 0) → Item R test item F →
    (i : Input) (xs : List A) (j : Input) → Many R i xs j → F j → next_passes test j ≡ false → many_behind test item [] i ≡ Ok (xs, j)
unfolding many_behind
many_read R test item F one i xs j are f s = many_from_read R test item F one (length i.tokens) [] i xs j are (omega arith) f s

pub some_read : {A : Type 0} (R : Input → A → Input → Type 0) (test : TokenTest) (item : Reader A) (F : Input → Type 0) → Item R test item F →
    (i : Input) (xs : List A) (j : Input) → Some1 R i xs j → F j → next_passes test j ≡ false → some_of test item i ≡ Ok (xs, j)
unfolding some_of many_behind
some_read R test item F one _ _ _ (some i m j x xs is are) f s =
    sequence_read item _ i x m (x ∷ xs, j) (one.reads i x m is (many_follows R test item F one m xs j are f))
    (many_from_read R test item F one (length m.tokens) (x ∷ []) m xs j are (omega arith) f s)

-- fewer tokens are left
pub many_less : {A : Type 0} (R : Input → A → Input → Type 0) → ((i : Input) (x : A) (j : Input) → R i x j → length j.tokens < length i.tokens) →
    (i : Input) (xs : List A) (j : Input) → Many R i xs j → length j.tokens ≤ length i.tokens
many_less R moves _ _ _ (nothing i) = omega arith
many_less R moves _ _ _ (more i m j x xs is are) = omega (arith, moves i x m is, many_less R moves m xs j are)

pub some_moves : {A : Type 0} (R : Input → A → Input → Type 0) → ((i : Input) (x : A) (j : Input) → R i x j → length j.tokens < length i.tokens) →
    (i : Input) (xs : List A) (j : Input) → Some1 R i xs j → length j.tokens < length i.tokens
some_moves R moves _ _ _ (some i m j x xs is are) = omega (arith, moves i x m is, many_less R moves m xs j are)

-- a reader that moves
pub sequence_moves : {A B : Type 0} (p : Reader A) (q : A → Reader B) → Moves p → ((x : A) → Near (q x)) → Moves (sequence p q)
sequence_moves p q moves near i r e = let (m, em, e1) = sequence_ok p q i r e in omega (arith, moves i m em, (near m.0).less m.1 r e1)

pub choose_moves : {A : Type 0} (test : TokenTest) (p q : Reader A) → Moves p → Moves q → Moves (choose test p q)
choose_moves test p q f g i r e = elim (choose_ok test p q i r e) [ inl h ↦ f i r h.1 | inr h ↦ g i r h.1 ]

pub starting_moves : {A : Type 0} (f : ℕ → Reader A) → ((start : ℕ) → Moves (f start)) → Moves (starting f)
unfolding starting
starting_moves f g i r e = g (Rattle.graphql_syntax.specs.Inputs.start_of i) i r e

-- others in place of the last tokens
changed_size : (last : ℕ) (others tokens : List Token) → length (with_others last others tokens) ≡ (length tokens - last) + length others
changed_size last others tokens =
    length-append (take (length tokens - last) tokens) others ∙ ap (λ n. n + length others) (length-take-le (length tokens - last) tokens (omega arith))

less_many : {A : Type 0} (test : TokenTest) (item : Reader A) → Near item → (turns : ℕ) (found : List A) (i : Input) (r : List A × Input) →
    many_from test item turns found i ≡ Ok r → length r.1.tokens ≤ length i.tokens
unfolding many_from
less_many test item one zero found i r e = let (same, there) = answer_ok found i r e in omega (arith, ap (λ (k : Input). length k.tokens) there)
less_many test item one (suc turns) found i r e = elim (choose_ok test _ _ i r e) [
  | inl h ↦
      let (m, em, e1) = sequence_ok item _ i r h.1 in
      omega (arith, one.less i m em, less_many test item one turns (found ++ m.0 ∷ []) m.1 r e1)
  | inr h ↦ let (same, there) = answer_ok found i r h.1 in omega (arith, ap (λ (k : Input). length k.tokens) there)
]

kept_many : {A : Type 0} (test : TokenTest) (item : Reader A) → Near item → Moves item → (last : ℕ) (others : List Token) (turns : ℕ) (found : List A) (i : Input) (r : List A × Input) →
    length i.tokens ≤ turns → many_from test item turns found i ≡ Ok r → last < length r.1.tokens →
    (again : ℕ) → length (changed last others i).tokens ≤ again → many_from test item again found (changed last others i) ≡ Ok (r.0, changed last others r.1)
unfolding many_from
kept_many test item one moves last others zero found i r n e h again enough =
    let (same, there) = answer_ok found i r e in absurd (omega (arith, ap (λ (k : Input). length k.tokens) there))
kept_many {A} test item one moves last others (suc turns) found i r n e h again enough = elim (choose_ok test _ _ i r e) [
  | inl k ↦
      let (m, em, e1) = sequence_ok item _ i r k.1 in
      let rest : length r.1.tokens ≤ length m.1.tokens = less_many test item one turns (found ++ m.0 ∷ []) m.1 r e1 in
      let less : length m.1.tokens < length i.tokens = moves i m em in
      let size = changed_size last others i.tokens in
      let size_behind = changed_size last others m.1.tokens in
      one_more test item again found (changed last others i) m.0 (changed last others m.1) (same_next last others test i (omega arith) ∙ k.0) (omega arith)
      (one.kept last others i m em (omega arith)) ∙
      kept_many test item one moves last others turns (found ++ m.0 ∷ []) m.1 r (omega arith) e1 h (again - 1) (omega arith)
  | inr k ↦
      let (same, there) = answer_ok found i r k.1 in
      no_more test item again found (changed last others i) (same_next last others test i (omega (arith, ap (λ (k : Input). length k.tokens) there)) ∙ k.0) ∙
      ap (λ l. ok l (changed last others i)) same ∙ ap (λ k. ok r.0 (changed last others k)) there
] where
  ok : List A → Input → Result (List A × Input) Refusal
  ok l i = Ok (l, i)

broken_first : {A : Type 0} (test : TokenTest) (item : Reader A) (turns : ℕ) (found : List A) (i : Input) (f : Refusal) →
    next_passes test i ≡ true → 0 < turns → item i ≡ Err f → many_from test item turns found i ≡ Err f
unfolding many_from choose sequence
broken_first test item zero found i f s n e = absurd (omega arith)
broken_first test item (suc turns) found i f s n e = rw (s, e) refl

lost_many : {A : Type 0} (test : TokenTest) (item : Reader A) → Near item → Moves item → (last : ℕ) (others : List Token) (turns : ℕ) (found : List A) (i : Input) (wanted : Expected) →
    length i.tokens ≤ turns → many_from test item turns found i ≡ Err (Unexpected (suc last) wanted) →
    (last < length i.tokens) × ((again : ℕ) → length (changed last others i).tokens ≤ again → Refuses (many_from test item again found (changed last others i)))
unfolding many_from answer
lost_many test item one moves last others zero found i wanted n e = absurd (let b : ⊥ = cc in b)
lost_many {A} test item one moves last others (suc turns) found i wanted n e = elim (choose_err test _ _ i (Unexpected (suc last) wanted) e) [
  | inl k ↦ elim (sequence_err item _ i (Unexpected (suc last) wanted) k.1) [
    | inl h ↦
        let (there, (x, f)) = one.lost last others i wanted h in
        let size = changed_size last others i.tokens in (
          there,
          λ again enough. (x, broken_first test item again found (changed last others i) x (same_next last others test i there ∙ k.0) (omega arith) f),
        )
    | inr h ↦
        let less : length h.0.1.tokens < length i.tokens = moves i h.0 h.1 in
        let (there, failed) = lost_many test item one moves last others turns (found ++ h.0.0 ∷ []) h.0.1 wanted (omega arith) h.2 in
        let size = changed_size last others i.tokens in
        let size_behind = changed_size last others h.0.1.tokens in (
          omega arith,
          λ again enough.
              let (x, f) = failed (again - 1) (omega arith) in (
                x,
                one_more test item again found (changed last others i) h.0.0 (changed last others h.0.1) (same_next last others test i (omega arith) ∙ k.0) (omega arith)
                    (one.kept last others i h.0 h.1 there) ∙ f,
              ),
        )
  ]
  | inr k ↦ absurd (let f = k.1 in let b : ⊥ = cc in b)
]

near_many : {A : Type 0} (test : TokenTest) (item : Reader A) (found : List A) → Near item → Moves item → Near (many_behind test item found)
unfolding many_behind
near_many test item found one moves = record {
  less = λ i r e. less_many test item one (length i.tokens) found i r e;
  kept = λ last others i r e h.
      kept_many test item one moves last others (length i.tokens) found i r (omega arith) e h (length (changed last others i).tokens) (omega arith);
  lost = λ last others i wanted e.
      let (there, failed) = lost_many test item one moves last others (length i.tokens) found i wanted (omega arith) e in
      (there, failed (length (changed last others i).tokens) (omega arith));
}

local_many_from : {A : Type 0} (depth : ℕ) (test : TokenTest) (item : Reader A) → Local depth item → (turns : ℕ) (found : List A) → Local depth (many_from test item turns found)
unfolding many_from
local_many_from depth test item one zero found = local_answer depth found
local_many_from depth test item one (suc turns) found =
    local_choose depth test _ _ (local_sequence depth item _ one (λ x. local_many_from depth test item one turns (found ++ x ∷ []))) (local_answer depth found)

pub local_many : {A : Type 0} (depth : ℕ) (test : TokenTest) (item : Reader A) (found : List A) → Local depth item → Moves item → Local depth (many_behind test item found)
unfolding many_behind
local_many depth test item found one moves = record {
  near = near_many test item found one.near moves;
  steps = λ i r e. (local_many_from depth test item one (length i.tokens) found).steps i r e;
  deep = λ i left e. (local_many_from depth test item one (length i.tokens) found).deep i left e;
  reaches = λ i f left e at. (local_many_from depth test item one (length i.tokens) found).reaches i f left e at;
}

pub local_some : {A : Type 0} (depth : ℕ) (test : TokenTest) (item : Reader A) → Local depth item → Moves item → Local depth (some_of test item)
unfolding some_of
local_some depth test item one moves = local_sequence depth item _ one (λ first. local_many depth test item (first ∷ []) one moves)
