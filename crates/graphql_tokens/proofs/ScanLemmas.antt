-- Tests, runs and turns of scans.
use Rattle.std.proofs.Common.{◌≡◌, ℕ, zero, suc, ◌-◌, ◌<◌, ◌≤◌, Bool, true, false, not, cond, ◌&&◌, ◌||◌, ◌==◌, ◌⊎◌, inl, inr, List, [], ◌∷◌, ◌++◌, length, take, Option, Some, None, option_and_then, refl, sym, ◌∙◌, ap, length-append, arith}
use Rattle.std.specs.List.{list_all}
use Rattle.std.proofs.lemmas.Bool.Decides.{nat_tests}
use Rattle.std.proofs.Math.Seq.{take-append_seam}
use Rattle.graphql_tokens.specs.Characters.{begins_with, begins_with_byte, IsRun}
use Rattle.graphql_tokens.specs.Scans.{strip, after_run, after_turns, after_all}

-- both parts of a test that passes
pub both_pass : (a b : Bool) → (a && b) ≡ true → (a ≡ true) × (b ≡ true)
both_pass true b e = (refl, e)
both_pass false b e = absurd (let h : ⊥ = cc in h)

-- one part of a test that passes
pub one_passes : (a b : Bool) → (a || b) ≡ true → (a ≡ true) ⊎ (b ≡ true)
one_passes true b e = inl refl
one_passes false b e = inr e

pub or_true : (a : Bool) → (a || true) ≡ true
or_true true = refl
or_true false = refl

pub not_true : (a : Bool) → not a ≡ true → a ≡ false
not_true true e = absurd (let h : ⊥ = cc in h)
not_true false e = refl

pub same_number : (a b : ℕ) → (a == b) ≡ true → a ≡ b
same_number a b e = grind (arith, nat_tests)

pub same_test : (b : ℕ) → (b == b) ≡ true
same_test b = grind (arith, nat_tests)

pub other_number : (a b : ℕ) → (a == b) ≡ false → a ≡ b → ⊥
other_number a b e h = grind (arith, nat_tests)

-- the part of a choice that was taken
pub chosen : {A : Type 0} (b : Bool) (x y z : A) → cond b x y ≡ z → ((b ≡ true) × (x ≡ z)) ⊎ ((b ≡ false) × (y ≡ z))
chosen true x y z e = inl (refl, e)
chosen false x y z e = inr (refl, e)

-- a guard that answers
pub guarded : {A : Type 0} (b : Bool) (x z : A) → cond b (Some x) None ≡ Some z → (b ≡ true) × (x ≡ z)
guarded true x z e = (refl, cc)
guarded false x z e = absurd (let h : ⊥ = cc in h)

-- the same, where what is guarded may not answer
pub guards : {A : Type 0} (b : Bool) (x : Option A) (z : A) → cond b x None ≡ Some z → (b ≡ true) × (x ≡ Some z)
guards true x z e = (refl, e)
guards false x z e = absurd (let h : ⊥ = cc in h)

pub and_then_is : {A B : Type 0} (f : A → Option B) (o : Option A) (y : B) → option_and_then f o ≡ Some y → (x : A) × (o ≡ Some x) × (f x ≡ Some y)
and_then_is f None y e = absurd (let h : ⊥ = cc in h)
and_then_is f (Some x) y e = (x, refl, e)

-- bytes in front
pub strip_is : (b : ℕ) (t r : List ℕ) → strip b t ≡ Some r → t ≡ b ∷ r
unfolding strip
strip_is b [] r e = absurd (let h : ⊥ = cc in h)
strip_is b (c ∷ cs) r e =
    let h = guarded (c == b) cs r e in
    let same = same_number c b h.0 in
    let rest = h.1 in cc

pub strip_it : (b : ℕ) (r : List ℕ) → strip b (b ∷ r) ≡ Some r
unfolding strip
strip_it b r = rw (same_test b) refl

pub strip_none : (b : ℕ) (t : List ℕ) → begins_with_byte b t ≡ false → strip b t ≡ None
unfolding strip
strip_none b [] e = refl
strip_none b (c ∷ cs) e = rw e refl

pub strip_fails : (b : ℕ) (t : List ℕ) → strip b t ≡ None → begins_with_byte b t ≡ false
unfolding strip
strip_fails b [] e = refl
strip_fails b (c ∷ cs) e = by (c == b) refl e where
  by : (k : Bool) → (c == b) ≡ k → cond k (Some cs) None ≡ None → (c == b) ≡ false
  by true q e = absurd (let h : ⊥ = cc in h)
  by false q e = q

-- runs
pub run_only : (test : ℕ → Bool) (run rest : List ℕ) → list_all test run ≡ true → begins_with test rest ≡ false → after_run test (run ++ rest) ≡ rest
run_only test [] [] e n = refl
run_only test [] (c ∷ cs) e n = rw n refl
run_only test (c ∷ run) rest e n =
    let h = both_pass (test c) (list_all test run) e in
    rw h.0 (run_only test run rest h.1 n)

-- the run that is there
pub run_of : (test : ℕ → Bool) (text : List ℕ) → (run : List ℕ) × IsRun test text run (after_run test text)
run_of test [] = ([], record { written = refl; each = refl; ends = refl })
run_of test (c ∷ cs) = by (test c) refl (run_of test cs) where
  by : (b : Bool) → test c ≡ b → (run : List ℕ) × IsRun test cs run (after_run test cs) → (run : List ℕ) × IsRun test (c ∷ cs) run (after_run test (c ∷ cs))
  by true e (run, is) = (c ∷ run, record { written = rw e (ap (λ l. c ∷ l) is.written); each = rw e is.each; ends = rw e is.ends })
  by false e (run, is) = ([], record { written = rw e refl; each = refl; ends = rw e e })

pub run_within : (test : ℕ → Bool) (text : List ℕ) → length (after_run test text) ≤ length text
run_within test [] = omega arith
run_within test (c ∷ cs) = by (test c) refl (run_within test cs) where
  by : (b : Bool) → test c ≡ b → length (after_run test cs) ≤ length cs → length (after_run test (c ∷ cs)) ≤ length (c ∷ cs)
  by true e behind = rw e (omega arith)
  by false e behind = rw e (omega arith)

-- the run, cut off by the length of the rest
pub run_cut : (test : ℕ → Bool) (text run rest : List ℕ) → rest ≡ after_run test text → run ≡ take (length text - length rest) text → IsRun test text run rest
run_cut test text run rest r t =
    let (found, is) = run_of test text in
    let written : text ≡ found ++ after_run test text = is.written in
    let long : length text - length (after_run test text) ≡ length found = omega (arith, ap length written, length-append found (after_run test text)) in
    let same : run ≡ found = t ∙ rw (r, long) (ap (take (length found)) written ∙ take-append_seam found (after_run test text)) in
    rw (r, same) is

-- scans that lead on to a shorter rest
module _ (scan : List ℕ → Option (List ℕ)) (shrinks : (t r : List ℕ) → scan t ≡ Some r → length r < length t) where
  at_end : (t : List ℕ) → length t ≤ 0 → scan t ≡ None
  at_end t h = by (scan t) refl where
    by : (o : Option (List ℕ)) → scan t ≡ o → scan t ≡ None
    by None e = e
    by (Some r) e = absurd (omega (arith, shrinks t r e))

  enough : (n m : ℕ) (t : List ℕ) → length t ≤ n → length t ≤ m → after_turns scan n t ≡ after_turns scan m t
  enough zero zero t a b = refl
  enough zero (suc m) t a b = rw (at_end t a, after_turns) refl
  enough (suc n) zero t a b = rw (at_end t b, after_turns) refl
  enough (suc n) (suc m) t a b = by (scan t) refl (enough n m) where
    by : (o : Option (List ℕ)) → scan t ≡ o → ((r : List ℕ) → length r ≤ n → length r ≤ m → after_turns scan n r ≡ after_turns scan m r) →
        after_turns scan (suc n) t ≡ after_turns scan (suc m) t
    by None e more = rw (e, after_turns) refl
    by (Some r) e more = rw (e, after_turns) (more r (omega (arith, shrinks t r e)) (omega (arith, shrinks t r e)))

  pub after_more : (t r : List ℕ) → scan t ≡ Some r → after_all scan t ≡ after_all scan r
  unfolding after_all
  after_more [] r e = absurd (omega (arith, shrinks [] r e))
  after_more (c ∷ cs) r e = rw (e, after_turns) (enough (length cs) (length r) r (omega (arith, shrinks (c ∷ cs) r e)) (omega arith))

  pub after_none : (t : List ℕ) → scan t ≡ None → after_all scan t ≡ t
  unfolding after_all
  after_none [] e = refl
  after_none (c ∷ cs) e = rw (e, after_turns) refl

  -- a run of bytes that the scan goes past one by one
  pub after_passed : (test : ℕ → Bool) → ((c : ℕ) (cs : List ℕ) → test c ≡ true → scan (c ∷ cs) ≡ Some cs) →
      (t : List ℕ) → after_all scan (after_run test t) ≡ after_all scan t
  after_passed test passes [] = refl
  after_passed test passes (c ∷ cs) = by (test c) refl (after_passed test passes cs) where
    by : (b : Bool) → test c ≡ b → after_all scan (after_run test cs) ≡ after_all scan cs → after_all scan (after_run test (c ∷ cs)) ≡ after_all scan (c ∷ cs)
    by true e next = rw e (next ∙ sym (after_more (c ∷ cs) cs (passes c cs e)))
    by false e next = rw e refl
