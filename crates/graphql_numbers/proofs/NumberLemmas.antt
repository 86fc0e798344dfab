-- The number that an integer's text stands for, and the parts of a float's text.
use Rattle.std.proofs.Common.{◌≡◌, ◌↔◌, ℕ, ◌<◌, ◌≤◌, List, [], ◌∷◌, ◌++◌, length, take, drop, Bool, true, false, not, cond, ◌&&◌, ◌||◌, ◌==◌, IsSome, Result, Ok, Err, ℤ, pos, neg_ℤ, refl, sym, ◌∙◌, ap, arith, rules, IsTrue, unwrap_or, Some, None, nat_lt, true≢false}
use Rattle.std.specs.Result.{result_ok, OkIff}
use Rattle.std.specs.List.{list_all, position, position_or_len}
use Rattle.std.specs.Char.{is_ascii_digit}
use Rattle.std.specs.Str.Parse.{digits_value, ParsesSigned}
use Rattle.std.proofs.lemmas.Str.Parse.{IsNumeralModel, numerals_by_value, parse_signed_minus, parse_signed_digits}
use Rattle.std.proofs.lemmas.Int.{ints}
use Rattle.std.proofs.lemmas.Bool.Decides.{nat_tests}
use Rattle.std.proofs.lemmas.List.{take-append-drop}
use Rattle.std.proofs.lemmas.List.Sums.{prefix_len-le-length}
use Rattle.std.proofs.Math.Seq.{take-append_seam, drop-append_seam}
use mir.Syntax.{w32}
use Rattle.graphql_numbers.specs.Numbers.{is_whole_number, is_integer, integer_value, FitsInt, is_digits, is_fraction, is_nothing, begins_exponent, ends_integer, is_exponent, is_signed_digits, is_fraction_or_exponent, IsFloat}

-- texts of decimal digits
decimal : IsNumeralModel (λ ds. list_all is_ascii_digit ds ≡ true) (digits_value 10)
decimal = numerals_by_value _ (search rules)

-- a test that passes, whatever was before it
or_true : (a : Bool) → (a || true) ≡ true
or_true true = refl
or_true false = refl

-- both parts of a test that passes
both_pass : (a b : Bool) → (a && b) ≡ true → (a ≡ true) × (b ≡ true)
both_pass true b e = (refl, e)
both_pass false b e = absurd (let h : ⊥ = cc in h)

-- a whole number is one digit or more
whole_digits : (ds : List ℕ) → is_whole_number ds ≡ true → (list_all is_ascii_digit ds ≡ true) × (0 < length ds)
whole_digits [] e = absurd (let h : ⊥ = cc in h)
whole_digits (c ∷ []) e = (rw e refl, omega arith)
whole_digits (c ∷ d ∷ ds) e =
    let front = both_pass (is_ascii_digit c && cond (c == 48) false true) (list_all is_ascii_digit (d ∷ ds)) e in
    let first = both_pass (is_ascii_digit c) (cond (c == 48) false true) front.0 in
    (rw first.0 front.1, omega arith)

-- what fits 32 bits, by the digits after the sign
fits_below : (n : ℕ) → FitsInt (neg_ℤ (pos n)) ↔ (n ≤ 2147483648)
fits_below n = (λ h. omega (arith, ints), λ h. (omega (arith, ints), omega (arith, ints)))

fits_above : (n : ℕ) → FitsInt (pos n) ↔ (n < 2147483648)
fits_above n = (λ h. omega (arith, ints), λ h. (omega (arith, ints), omega (arith, ints)))

-- a call that answers exactly under a condition
ok_some : {T E : Type 0} {Q : Type 0} (x : T) (r : Result T E) → OkIff r Q x → IsSome (result_ok r) ↔ Q
ok_some x (Ok y) h = (λ _. h.0, λ _. refl)
ok_some x (Err e) h = (λ s. absurd (let h : ⊥ = cc in h), λ q. absurd (h q))

-- what `parse` gives at an integer, by its first byte
signed_fits : {E : Type 0} (c : ℕ) (cs : List ℕ) (r : Result ℤ E) (b : Bool) → (c == 45) ≡ b → ParsesSigned w32 10 (c ∷ cs) r →
    cond b (is_whole_number cs) (is_whole_number (c ∷ cs)) ≡ true →
    IsSome (result_ok r) ↔ FitsInt (cond b (neg_ℤ (pos (digits_value 10 cs))) (pos (digits_value 10 (c ∷ cs))))
signed_fits c cs r true e p whole =
    let digits = whole_digits cs whole in
    let is_minus : c ≡ 45 = grind (arith, nat_tests) in
    let read = ok_some _ r (parse_signed_minus decimal w32 (c ∷ cs) r p is_minus) in
    let fits = fits_below (digits_value 10 cs) in
    (λ s. fits.1 (read.0 s).2, λ f. read.1 (digits.0, digits.1, fits.0 f))
signed_fits c cs r false e p whole =
    let digits = whole_digits (c ∷ cs) whole in
    let read = ok_some _ r (parse_signed_digits decimal w32 (c ∷ cs) r p digits.0) in
    let fits = fits_above (digits_value 10 (c ∷ cs)) in
    (λ s. fits.1 (read.0 s).1, λ f. read.1 (digits.1, fits.0 f))

-- `parse` takes an integer exactly where it fits
pub integer_fits : {E : Type 0} (text : List ℕ) (r : Result ℤ E) → ParsesSigned w32 10 text r → is_integer text ≡ true →
    IsSome (result_ok r) ↔ FitsInt (integer_value text)
integer_fits [] r p e = absurd (let h : ⊥ = cc in h)
integer_fits (c ∷ cs) r p e = signed_fits c cs r (c == 45) refl p e

-- the place of the first element that passes, or the end
pub position_or_end : (test : ℕ → Bool) (xs : List ℕ) → unwrap_or (position test xs) (length xs) ≡ position_or_len test xs
position_or_end test xs = by (nat_lt (position_or_len test xs) (length xs)) refl where
  by : (b : Bool) → nat_lt (position_or_len test xs) (length xs) ≡ b →
      unwrap_or (cond b (Some (position_or_len test xs)) None) (length xs) ≡ position_or_len test xs
  by true e = refl
  by false e =
      let past : length xs ≤ position_or_len test xs = grind (arith, nat_tests) in
      omega (arith, past, prefix_len-le-length (λ x. not (test x)) xs)

module _ (test : ℕ → Bool) where
  -- the first element passes, if there is one
  abbrev BeginsWith : List ℕ → Type 0
  BeginsWith [] = Unit {0}
  BeginsWith (x ∷ xs) = test x ≡ true

  -- no element passes
  abbrev NonePasses : List ℕ → Type 0
  NonePasses xs = list_all (λ x. not (test x)) xs ≡ true

  -- the first element that passes is where the second part begins
  seam : (xs ys : List ℕ) → NonePasses xs → BeginsWith ys → position_or_len test (xs ++ ys) ≡ length xs
  seam [] [] h b = refl
  seam [] (y ∷ ys) h b = rw b refl
  seam (x ∷ xs) ys h b =
      let parts = both_pass (not (test x)) (list_all (λ y. not (test y)) xs) h in
      rw parts.0 (omega (arith, seam xs ys parts.1 b))

  -- so a text splits there
  split : (text xs ys : List ℕ) (at : ℕ) → text ≡ xs ++ ys → at ≡ position_or_len test text → NonePasses xs → BeginsWith ys →
      (take at text ≡ xs) × (drop at text ≡ ys)
  split text xs ys at written place h b =
      let there : at ≡ length xs = place ∙ ap (position_or_len test) written ∙ seam xs ys h b in
      (rw (there, written) (take-append_seam xs ys), rw (there, written) (drop-append_seam xs ys))

  -- where each digit fails, digits do
  none_of_digits : ((c : ℕ) → is_ascii_digit c ≡ true → not (test c) ≡ true) → (ds : List ℕ) → list_all is_ascii_digit ds ≡ true → NonePasses ds
  none_of_digits fails [] e = refl
  none_of_digits fails (d ∷ ds) e =
      let parts = both_pass (is_ascii_digit d) (list_all is_ascii_digit ds) e in
      rw (fails d parts.0) (none_of_digits fails ds parts.1)

-- digits and signs are no ends of integers, and digits and `.` no starts of exponents
digit_stays : (c : ℕ) → is_ascii_digit c ≡ true → not (ends_integer c) ≡ true
digit_stays c e = grind (arith, nat_tests)

digit_no_exponent : (c : ℕ) → is_ascii_digit c ≡ true → not (begins_exponent c) ≡ true
digit_no_exponent c e = grind (arith, nat_tests)

minus_stays : (c : ℕ) → (c == 45) ≡ true → not (ends_integer c) ≡ true
minus_stays c e = grind (arith, nat_tests)

point_no_exponent : (c : ℕ) → (c == 46) ≡ true → not (begins_exponent c) ≡ true
point_no_exponent c e = grind (arith, nat_tests)

-- an integer has no end of an integer inside
integer_stays : (text : List ℕ) → is_integer text ≡ true → NonePasses ends_integer text
integer_stays [] e = refl
integer_stays (c ∷ cs) e = by (c == 45) refl e where
  by : (b : Bool) → (c == 45) ≡ b → cond b (is_whole_number cs) (is_whole_number (c ∷ cs)) ≡ true → NonePasses ends_integer (c ∷ cs)
  by true minus whole = rw (minus_stays c minus) (none_of_digits ends_integer digit_stays cs (whole_digits cs whole).0)
  by false minus whole = none_of_digits ends_integer digit_stays (c ∷ cs) (whole_digits (c ∷ cs) whole).0

-- digits are digits
some_digits : (ds : List ℕ) → is_digits ds ≡ true → list_all is_ascii_digit ds ≡ true
some_digits [] e = refl
some_digits (d ∷ ds) e = e

-- what is left of the tests of a fraction or an exponent, by what is there
only_exponent : (x : Bool) → ((false || (true && x)) || (false && x)) ≡ true → x ≡ true
only_exponent true e = refl
only_exponent false e = absurd (let h : ⊥ = cc in h)

fraction_first : (f n x : Bool) → (((f && n) || (false && x)) || (f && x)) ≡ true → f ≡ true
fraction_first true n x e = refl
fraction_first false n x e = absurd (let h : ⊥ = cc in h)

exponent_last : (f n x : Bool) → (((f && false) || (n && x)) || (f && x)) ≡ true → x ≡ true
exponent_last f n true e = refl
exponent_last true true false e = absurd (let h : ⊥ = cc in h)
exponent_last true false false e = absurd (let h : ⊥ = cc in h)
exponent_last false true false e = absurd (let h : ⊥ = cc in h)
exponent_last false false false e = absurd (let h : ⊥ = cc in h)

module _ (fraction exponent : List ℕ) (goes_on : is_fraction_or_exponent fraction exponent ≡ true) where
  -- no exponent begins inside the fraction
  fraction_stays : NonePasses begins_exponent fraction
  fraction_stays = by fraction goes_on where
    by : (f : List ℕ) → is_fraction_or_exponent f exponent ≡ true → NonePasses begins_exponent f
    by [] g = refl
    by (c ∷ cs) g =
        let parts = both_pass (c == 46) (is_digits cs) (fraction_first (is_fraction (c ∷ cs)) (is_nothing exponent) (is_exponent exponent) g) in
        rw (point_no_exponent c parts.0) (none_of_digits begins_exponent digit_no_exponent cs (some_digits cs parts.1))

  -- the exponent, if there is one, begins as one
  exponent_begins : BeginsWith begins_exponent exponent
  exponent_begins = by exponent goes_on where
    by : (x : List ℕ) → is_fraction_or_exponent fraction x ≡ true → BeginsWith begins_exponent x
    by [] g = tt
    by (e ∷ ds) g = (both_pass (begins_exponent e) (is_signed_digits ds) (exponent_last (is_fraction fraction) (is_nothing fraction) (is_exponent (e ∷ ds)) g)).0

  -- what follows the integer ends it
  rest_begins : BeginsWith ends_integer (fraction ++ exponent)
  rest_begins = by fraction exponent goes_on where
    by : (f x : List ℕ) → is_fraction_or_exponent f x ≡ true → BeginsWith ends_integer (f ++ x)
    by [] [] g = tt
    by [] (e ∷ ds) g =
        let first = (both_pass (begins_exponent e) (is_signed_digits ds) (only_exponent (is_exponent (e ∷ ds)) g)).0 in
        rw first (or_true (e == 46))
    by (c ∷ cs) x g =
        let first = (both_pass (c == 46) (is_digits cs) (fraction_first (is_fraction (c ∷ cs)) (is_nothing x) (is_exponent x) g)).0 in
        rw first refl

-- a text is a float exactly where the parts that begin at the first marks are those of one
module _ (text : List ℕ) (i j : ℕ) (ends : i ≡ position_or_len ends_integer text) (starts : j ≡ position_or_len begins_exponent (drop i text)) where
  -- the parts of a float are there
  only_parts : (f : IsFloat text) → (take i text ≡ f.whole) × (take j (drop i text) ≡ f.fraction) × (drop j (drop i text) ≡ f.exponent)
  only_parts f =
      let outer = split ends_integer text f.whole (f.fraction ++ f.exponent) i f.written ends (integer_stays f.whole f.begins) (rest_begins f.fraction f.exponent f.goes_on) in
      let inner = split begins_exponent (drop i text) f.fraction f.exponent j outer.1 starts (fraction_stays f.fraction f.exponent f.goes_on) (exponent_begins f.fraction f.exponent f.goes_on) in
      (outer.0, inner.0, inner.1)

  pub float_after : is_integer (take i text) ≡ true →
      IsTrue (is_fraction_or_exponent (take j (drop i text)) (drop j (drop i text))) ↔ IsFloat text
  float_after begins = (
    λ goes. record {
      whole = take i text;
      fraction = take j (drop i text);
      exponent = drop j (drop i text);
      written = sym (ap (λ l. take i text ++ l) (take-append-drop j (drop i text)) ∙ take-append-drop i text);
      begins = begins;
      goes_on = goes;
    },
    λ f. let parts = only_parts f in rw (parts.1, parts.2) f.goes_on,
  )

  pub no_float : is_integer (take i text) ≡ false → ¬ IsFloat text
  no_float fails f = true≢false (sym (rw (only_parts f).0 f.begins) ∙ fails)
