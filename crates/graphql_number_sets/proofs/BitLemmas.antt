-- Words of bits.
use Rattle.std.proofs.Common.{◌≡◌, ℕ, zero, suc, ◌+◌, ◌*◌, ◌^◌, ◌<◌, ◌≤◌, ◌/◌, ◌%◌, true, false, List, [], ◌∷◌, get_or, set, length, arith, refl, sym, ap, ◌∙◌, eqb, eqb-true, eq-eqb, inl, inr, w64}
use Rattle.std.specs.Prelude.{◌≢◌, ◌↔◌, ◌⊎◌, bit_and, bit_or}
use Rattle.std.specs.Int.{bit_at, bit_not, trailing_zeros}
use Rattle.std.proofs.lemmas.Bool.{cases_eq, cases_lt}
use Rattle.std.proofs.lemmas.List.{get_or-set_other, get_or-set_same}
use Rattle.std.proofs.lemmas.Nat.{and_le_r}
use Rattle.std.proofs.lemmas.Nat.Bits.{bit_at-lt, bit_at-trailing_zeros, bit_at-zero, bit_at_and, bit_at_not, bit_at_or, bit_at_set_other, bit_at_set_same}
use Rattle.graphql_number_sets.specs.NumberSets.{has_bit, word_at}

-- the bits of one word that another lacks
abbrev pub missing : ℕ → ℕ → ℕ
missing word other = bit_and word (bit_not w64 other)

-- a number's bit, by its place and its place in the word
at_place : (words : List ℕ) (n place t : ℕ) → n / 64 ≡ place → n % 64 ≡ t → has_bit words n ≡ eqb (bit_at (word_at words place) t) 1
at_place words n place t p r = ap (λ q. eqb (bit_at (word_at words q) (n % 64)) 1) p ∙ ap (λ q. eqb (bit_at (word_at words place) q) 1) r

-- behind the last word there is none
beyond : (words : List ℕ) (place : ℕ) → length words ≤ place → word_at words place ≡ 0
beyond [] place past = refl
beyond (w ∷ words) zero past = absurd (omega (arith, past))
beyond (w ∷ words) (suc place) past = beyond words place (omega (arith, past))

-- a bit that is not 0 is 1, as a test
bit_of : (word t : ℕ) → eqb (bit_at word t) 1 ≡ true → bit_at word t ≡ 1
bit_of word t e = eqb-true (bit_at word t) 1 e

test_of : (word t : ℕ) → bit_at word t ≡ 1 → eqb (bit_at word t) 1 ≡ true
test_of word t e = eq-eqb (bit_at word t) 1 e

-- a word with a bit that another lacks
pub lacking_bit : (words others : List ℕ) (place : ℕ) → word_at words place < 2 ^ 64 →
    missing (word_at others place) (word_at words place) ≢ 0 → (n : ℕ) × (has_bit others n ≡ true) × (has_bit words n ≡ false)
lacking_bit words others place w_fits some =
    let o : ℕ = word_at others place in
    let w : ℕ = word_at words place in
    let m : ℕ = missing o w in
    let small : m ≤ bit_not w64 w = and_le_r o (bit_not w64 w) in
    let room : bit_not w64 w < 2 ^ 64 = omega arith in
    let above : 0 < m = elim (cases_lt 0 m) [
      | inl l ↦ l
      | inr l ↦ absurd (some (omega (arith, l)))
    ] in
    let lowest = bit_at-trailing_zeros w64 m above (omega (arith, small, room)) in
    let t : ℕ = trailing_zeros w64 m in
    let low : t < 64 = lowest.0 in
    let both = bit_at_and o (bit_not w64 w) t in
    let other = bit_at_not w64 w t w_fits low in
    let n : ℕ = place * 64 + t in
    let p : n / 64 ≡ place = omega (arith, low) in
    let r : n % 64 ≡ t = omega (arith, low) in
    let has : bit_at o t ≡ 1 = omega (arith, both, lowest.1, bit_at-lt o t) in
    let lacks : bit_at w t ≡ 0 = omega (arith, both, other, lowest.1, bit_at-lt w t) in
    (n, at_place others n place t p r ∙ test_of o t has, at_place words n place t p r ∙ ap (λ b. eqb b 1) lacks)

-- where no word has such a bit, each number of the other set is in the set
pub nothing_lacks : (words others : List ℕ) → ((place : ℕ) → place < length others → missing (word_at others place) (word_at words place) ≡ 0) →
    ((place : ℕ) → place < length others → word_at words place < 2 ^ 64) → (n : ℕ) → has_bit others n ≡ true → has_bit words n ≡ true
nothing_lacks words others none fits n has = elim (cases_lt (n / 64) (length others)) [
  | inl within ↦
      (let o : ℕ = word_at others (n / 64) in
      let w : ℕ = word_at words (n / 64) in
      let t : ℕ = n % 64 in
      let low : t < 64 = omega arith in
      let gone : bit_at (missing o w) t ≡ 0 = ap (λ m. bit_at m t) (none (n / 64) within) ∙ bit_at-zero t in
      test_of w t (omega (arith, gone, bit_at_and o (bit_not w64 w) t, bit_at_not w64 w t (fits (n / 64) within) low, bit_of o t has, bit_at-lt w t)))
  | inr past ↦ absurd (no_bit (beyond others (n / 64) past))
] where
  no_bit : word_at others (n / 64) ≡ 0 → ⊥
  no_bit e =
      let none : bit_at (word_at others (n / 64)) (n % 64) ≡ 0 = ap (λ w. bit_at w (n % 64)) e ∙ bit_at-zero (n % 64) in
      omega (arith, none, bit_of (word_at others (n / 64)) (n % 64) has)

-- a bit that is there is in one of the words
pub bit_within : (words : List ℕ) (n : ℕ) → has_bit words n ≡ true → n / 64 < length words
bit_within words n has = elim (cases_lt (n / 64) (length words)) [
  | inl within ↦ within
  | inr past ↦
      (let none : bit_at (word_at words (n / 64)) (n % 64) ≡ 0 = ap (λ w. bit_at w (n % 64)) (beyond words (n / 64) past) ∙ bit_at-zero (n % 64) in
      absurd (omega (arith, none, bit_of (word_at words (n / 64)) (n % 64) has)))
]

-- a bit was set
pub inserted : (old made : List ℕ) (number : ℕ) → ((place : ℕ) → word_at made place ≡ word_at old place) → number / 64 < length made → (other : ℕ) →
    (has_bit (set made (number / 64) (bit_or (word_at made (number / 64)) (1 * 2 ^ (number % 64) % 2 ^ 64))) other ≡ true) ↔ ((has_bit old other ≡ true) ⊎ (other ≡ number))
inserted old made number same within other = (there, back) where
  i : ℕ
  i = number / 64

  k : ℕ
  k = number % 64

  low : k < 64
  low = omega arith

  word : ℕ
  word = bit_or (word_at made i) (1 * 2 ^ k % 2 ^ 64)

  new : List ℕ
  new = set made i word

  here : word_at new i ≡ word
  here = get_or-set_same made i word 0 within

  apart : (place : ℕ) → place ≢ i → word_at new place ≡ word_at old place
  apart place other = get_or-set_other made i place word 0 other ∙ same place

  whole : other / 64 ≡ i → other % 64 ≡ k → other ≡ number
  whole p r = omega (arith, p, r)

  there : has_bit new other ≡ true → (has_bit old other ≡ true) ⊎ (other ≡ number)
  there has = elim (cases_eq (other / 64) i) [
    | inl p ↦ elim (cases_eq (other % 64) k) [
      | inl r ↦ inr (whole p r)
      | inr r ↦
          inl (at_place old other i (other % 64) p refl ∙
          ap (λ b. eqb b 1) (sym (bit_at_set_other w64 (word_at made i) k low (other % 64) r ∙ ap (λ w. bit_at w (other % 64)) (same i))) ∙
          ap (λ w. eqb (bit_at w (other % 64)) 1) (sym here) ∙ sym (at_place new other i (other % 64) p refl) ∙ has)
    ]
    | inr p ↦ inl (ap (λ w. eqb (bit_at w (other % 64)) 1) (sym (apart (other / 64) p)) ∙ has)
  ]

  stays : has_bit old other ≡ true → has_bit new other ≡ true
  stays has = elim (cases_eq (other / 64) i) [
    | inl p ↦
        (let t : ℕ = other % 64 in
        let was : bit_at (word_at made i) t ≡ 1 = ap (λ w. bit_at w t) (same i) ∙ ap (λ q. bit_at (word_at old q) t) (sym p) ∙ bit_of (word_at old (other / 64)) t has in
        at_place new other i t p refl ∙ ap (λ w. eqb (bit_at w t) 1) here ∙
        test_of word t (omega (arith, bit_at_or (word_at made i) (1 * 2 ^ k % 2 ^ 64) t, was, bit_at-lt (1 * 2 ^ k % 2 ^ 64) t, bit_at-lt word t)))
    | inr p ↦ ap (λ w. eqb (bit_at w (other % 64)) 1) (apart (other / 64) p) ∙ has
  ]

  back : (has_bit old other ≡ true) ⊎ (other ≡ number) → has_bit new other ≡ true
  back (inl has) = stays has
  back (inr is) =
      at_place new other i k (ap (λ n. n / 64) is) (ap (λ n. n % 64) is) ∙ ap (λ w. eqb (bit_at w k) 1) here ∙
      test_of word k (bit_at_set_same w64 (word_at made i) k low)

-- each word was joined with that of another set
pub joined : (old others new : List ℕ) → ((place : ℕ) → place < length others → word_at new place ≡ bit_or (word_at old place) (word_at others place)) →
    ((place : ℕ) → length others ≤ place → word_at new place ≡ word_at old place) → (n : ℕ) →
    (has_bit new n ≡ true) ↔ ((has_bit old n ≡ true) ⊎ (has_bit others n ≡ true))
joined old others new each rest n = by (cases_lt place (length others)) where
  place : ℕ
  place = n / 64

  t : ℕ
  t = n % 64

  o : ℕ
  o = word_at old place

  w : ℕ
  w = word_at others place

  none_there : length others ≤ place → has_bit others n ≡ true → ⊥
  none_there past has =
      let none : bit_at w t ≡ 0 = ap (λ v. bit_at v t) (beyond others place past) ∙ bit_at-zero t in
      omega (arith, none, bit_of w t has)

  by : (place < length others) ⊎ (length others ≤ place) → (has_bit new n ≡ true) ↔ ((has_bit old n ≡ true) ⊎ (has_bit others n ≡ true))
  by (inl within) =
      let is : bit_at (word_at new place) t ≡ bit_at (bit_or o w) t = ap (λ v. bit_at v t) (each place within) in
      let either = bit_at_or o w t in (
        λ has. elim (cases_eq (bit_at o t) 1) [
          | inl one ↦ inl (test_of o t one)
          | inr other ↦ inr (test_of w t (omega (arith, is, either, bit_of (word_at new place) t has, other, bit_at-lt o t, bit_at-lt w t)))
        ],
        λ has. test_of (word_at new place) t (elim has [
          | inl first ↦ omega (arith, is, either, bit_of o t first, bit_at-lt w t)
          | inr second ↦ omega (arith, is, either, bit_of w t second, bit_at-lt o t)
        ]),
      )
  by (inr past) =
      let is : has_bit new n ≡ has_bit old n = ap (λ v. eqb (bit_at v t) 1) (rest place past) in (
        λ has. inl (sym is ∙ has),
        λ has. elim has [
          | inl first ↦ is ∙ first
          | inr second ↦ absurd (none_there past second)
        ],
      )

-- what is read at a place within
pub read_at : (xs : List ℕ) (i x : ℕ) → i < length xs → x ≡ get_or xs i x → x ≡ word_at xs i
read_at [] i x within is = absurd (omega (arith, within))
read_at (y ∷ ys) zero x within is = is
read_at (y ∷ ys) (suc i) x within is = read_at ys i x (omega (arith, within)) is
