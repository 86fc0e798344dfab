-- Numbers are ASCII.
use Rattle.std.proofs.Common.{◌≡◌, ℕ, Bool, true, false, cond, ◌==◌, ◌&&◌, ◌||◌, ◌⊎◌, inl, inr, List, [], ◌∷◌, ◌++◌, refl, ◌∙◌, arith}
use Rattle.std.specs.List.{list_all}
use Rattle.std.specs.Char.{is_ascii, is_ascii_digit}
use Rattle.std.proofs.lemmas.Bool.Decides.{nat_tests}
use Rattle.std.proofs.lemmas.List.Folds.{list_all-append}
use Rattle.graphql_nodes.proofs.AsciiLemmas.{all_ascii}
use Rattle.graphql_numbers.specs.Numbers.{is_whole_number, is_integer, is_digits, is_fraction, begins_exponent, is_signed_digits, is_exponent, is_nothing, is_fraction_or_exponent, IsFloat}
use Rattle.graphql_tokens.proofs.ScanLemmas.{both_pass, chosen}

pub one_of : (a b : Bool) → (a || b) ≡ true → (a ≡ true) ⊎ (b ≡ true)
one_of true b e = inl refl
one_of false b e = inr e

digit_ascii : (c : ℕ) → is_ascii_digit c ≡ true → is_ascii c ≡ true
digit_ascii c e = grind (arith, nat_tests)

whole_ascii : (text : List ℕ) → is_whole_number text ≡ true → list_all is_ascii text ≡ true
whole_ascii [] e = absurd (let b : ⊥ = cc in b)
whole_ascii (c ∷ []) e = rw (digit_ascii c e) refl
whole_ascii (c ∷ (d ∷ ds)) e =
    let h = both_pass (is_ascii_digit c && cond (c == 48) false true) (list_all is_ascii_digit (d ∷ ds)) e in
    let k = both_pass (is_ascii_digit c) (cond (c == 48) false true) h.0 in
    rw (digit_ascii c k.0) (all_ascii is_ascii_digit digit_ascii (d ∷ ds) h.1)

sign_ascii : (c : ℕ) → (c == 45) ≡ true → is_ascii c ≡ true
sign_ascii c e = grind (arith, nat_tests)

pub integer_ascii : (text : List ℕ) → is_integer text ≡ true → list_all is_ascii text ≡ true
integer_ascii [] e = absurd (let b : ⊥ = cc in b)
integer_ascii (c ∷ cs) e = elim (chosen (c == 45) (is_whole_number cs) (is_whole_number (c ∷ cs)) true e) [
  | inl h ↦ rw (sign_ascii c h.0) (whole_ascii cs h.1)
  | inr h ↦ whole_ascii (c ∷ cs) h.1
]

digits_ascii : (text : List ℕ) → is_digits text ≡ true → list_all is_ascii text ≡ true
digits_ascii [] e = refl
digits_ascii (d ∷ ds) e = all_ascii is_ascii_digit digit_ascii (d ∷ ds) e

point_ascii : (c : ℕ) → (c == 46) ≡ true → is_ascii c ≡ true
point_ascii c e = grind (arith, nat_tests)

fraction_ascii : (text : List ℕ) → is_fraction text ≡ true → list_all is_ascii text ≡ true
fraction_ascii [] e = refl
fraction_ascii (c ∷ ds) e =
    let h = both_pass (c == 46) (is_digits ds) e in
    rw (point_ascii c h.0) (digits_ascii ds h.1)

either_sign_ascii : (c : ℕ) → (c == 43 || c == 45) ≡ true → is_ascii c ≡ true
either_sign_ascii c e = grind (arith, nat_tests)

signed_ascii : (text : List ℕ) → is_signed_digits text ≡ true → list_all is_ascii text ≡ true
signed_ascii [] e = refl
signed_ascii (c ∷ ds) e = elim (one_of (is_digits (c ∷ ds)) ((c == 43 || c == 45) && is_digits ds) e) [
  | inl h ↦ digits_ascii (c ∷ ds) h
  | inr h ↦ let k = both_pass (c == 43 || c == 45) (is_digits ds) h in rw (either_sign_ascii c k.0) (digits_ascii ds k.1)
]

exponent_begin_ascii : (c : ℕ) → begins_exponent c ≡ true → is_ascii c ≡ true
exponent_begin_ascii c e = grind (arith, nat_tests)

exponent_ascii : (text : List ℕ) → is_exponent text ≡ true → list_all is_ascii text ≡ true
exponent_ascii [] e = refl
exponent_ascii (c ∷ ds) e =
    let h = both_pass (begins_exponent c) (is_signed_digits ds) e in
    rw (exponent_begin_ascii c h.0) (signed_ascii ds h.1)

nothing_ascii : (text : List ℕ) → is_nothing text ≡ true → list_all is_ascii text ≡ true
nothing_ascii [] e = refl
nothing_ascii (c ∷ cs) e = absurd (let b : ⊥ = cc in b)

joined_ascii : (a b : List ℕ) → list_all is_ascii a ≡ true → list_all is_ascii b ≡ true → list_all is_ascii (a ++ b) ≡ true
joined_ascii a b e f = list_all-append is_ascii a b ∙ rw (e, f) refl

behind_ascii : (f e : List ℕ) → is_fraction_or_exponent f e ≡ true → (list_all is_ascii f ≡ true) × (list_all is_ascii e ≡ true)
behind_ascii f e h = elim (one_of ((is_fraction f && is_nothing e) || (is_nothing f && is_exponent e)) (is_fraction f && is_exponent e) h) [
  | inl k ↦ elim (one_of (is_fraction f && is_nothing e) (is_nothing f && is_exponent e) k) [
    | inl l ↦ let p = both_pass (is_fraction f) (is_nothing e) l in (fraction_ascii f p.0, nothing_ascii e p.1)
    | inr l ↦ let p = both_pass (is_nothing f) (is_exponent e) l in (nothing_ascii f p.0, exponent_ascii e p.1)
  ]
  | inr k ↦ let p = both_pass (is_fraction f) (is_exponent e) k in (fraction_ascii f p.0, exponent_ascii e p.1)
]

pub float_ascii : (text : List ℕ) → IsFloat text → list_all is_ascii text ≡ true
float_ascii text is =
    let h = behind_ascii is.fraction is.exponent is.goes_on in
    let written = is.written in
    rw written (joined_ascii is.whole (is.fraction ++ is.exponent) (integer_ascii is.whole is.begins) (joined_ascii is.fraction is.exponent h.0 h.1))

-- and so they are UTF-8
