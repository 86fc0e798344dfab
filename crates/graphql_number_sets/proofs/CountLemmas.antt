-- How many pairs of numbers below a bound are not among some.
use Rattle.std.proofs.Common.{◌≡◌, ℕ, zero, suc, ◌+◌, ◌<◌, ◌≤◌, Bool, true, false, cond, arith, refl, sym, ap, ◌∙◌, inl, inr}
use Rattle.std.proofs.lemmas.Bool.{cases_eq}

-- one that is not there counts
abbrev absent : Bool → ℕ
absent b = cond b 0 1

absent_falls : (a b : Bool) → (a ≡ true → b ≡ true) → absent b ≤ absent a
absent_falls true b kept = let e : absent b ≡ 0 = ap absent (kept refl) in omega (arith, e)
absent_falls false true kept = omega arith
absent_falls false false kept = omega arith

-- how many of the first numbers are absent
pub count_absent : ℕ → (ℕ → Bool) → ℕ
count_absent zero f = 0
count_absent (suc n) f = absent (f n) + count_absent n f

count_falls : (n : ℕ) (f g : ℕ → Bool) → ((j : ℕ) → f j ≡ true → g j ≡ true) → count_absent n g ≤ count_absent n f
unfolding count_absent
count_falls zero f g kept = let a : count_absent zero f ≡ 0 = refl in let b : count_absent zero g ≡ 0 = refl in omega (arith, a, b)
count_falls (suc n) f g kept = omega (arith, absent_falls (f n) (g n) (kept n), count_falls n f g kept)

count_less : (n : ℕ) (f g : ℕ → Bool) → ((j : ℕ) → f j ≡ true → g j ≡ true) → (j : ℕ) → j < n → f j ≡ false → g j ≡ true → count_absent n g < count_absent n f
unfolding count_absent
count_less zero f g kept j within was is = absurd (omega (arith, within))
count_less (suc n) f g kept j within was is = elim (cases_eq j n) [
  | inl same ↦
      (let before : absent (f n) ≡ 1 = ap absent (ap f (sym same) ∙ was) in
      let after : absent (g n) ≡ 0 = ap absent (ap g (sym same) ∙ is) in
      omega (arith, before, after, count_falls n f g kept))
  | inr other ↦ omega (arith, absent_falls (f n) (g n) (kept n), count_less n f g kept j (omega (arith, within, other)) was is)
]

-- the same of pairs
pub count_pairs : ℕ → ℕ → (ℕ → ℕ → Bool) → ℕ
count_pairs zero count f = 0
count_pairs (suc n) count f = count_absent count (f n) + count_pairs n count f

pairs_fall : (n count : ℕ) (f g : ℕ → ℕ → Bool) → ((i j : ℕ) → f i j ≡ true → g i j ≡ true) → count_pairs n count g ≤ count_pairs n count f
unfolding count_pairs
pairs_fall zero count f g kept = let a : count_pairs zero count f ≡ 0 = refl in let b : count_pairs zero count g ≡ 0 = refl in omega (arith, a, b)
pairs_fall (suc n) count f g kept = omega (arith, count_falls count (f n) (g n) (kept n), pairs_fall n count f g kept)

pub fewer_pairs : (n count : ℕ) (f g : ℕ → ℕ → Bool) → ((i j : ℕ) → f i j ≡ true → g i j ≡ true) → (i j : ℕ) → i < n → j < count → f i j ≡ false → g i j ≡ true →
    count_pairs n count g < count_pairs n count f
unfolding count_pairs
fewer_pairs zero count f g kept i j i_in j_in was is = absurd (omega (arith, i_in))
fewer_pairs (suc n) count f g kept i j i_in j_in was is = elim (cases_eq i n) [
  | inl same ↦ omega (arith, count_less count (f n) (g n) (kept n) j j_in (ap (λ m. f m j) (sym same) ∙ was) (ap (λ m. g m j) (sym same) ∙ is), pairs_fall n count f g kept)
  | inr other ↦ omega (arith, count_falls count (f n) (g n) (kept n), fewer_pairs n count f g kept i j (omega (arith, i_in, other)) j_in was is)
]
