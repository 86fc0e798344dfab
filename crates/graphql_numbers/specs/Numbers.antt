-- The texts of numbers. Specification: 2.9.1 Int Value, 2.9.2 Float Value.
use Rattle.std.specs.Prelude.{◌≡◌, ℕ, Bool, true, false, ◌&&◌, ◌||◌, ◌==◌, List, [], ◌∷◌, ◌++◌, IsTrue, cond, ℤ, pos, neg_ℤ, ◌≤ℤ◌}
use Rattle.std.specs.List.{list_all}
use Rattle.std.specs.Char.{is_ascii_digit}
use Rattle.std.specs.Str.Parse.{digits_value}

-- digits that do not begin with 0, unless 0 is all there is
abbrev pub is_whole_number : List ℕ → Bool
is_whole_number [] = false
is_whole_number (c ∷ []) = is_ascii_digit c
is_whole_number (c ∷ d ∷ ds) = (is_ascii_digit c && (cond (c == 48) false true)) && list_all is_ascii_digit (d ∷ ds)

-- an integer: a whole number, with `-` before it or not
abbrev pub is_integer : List ℕ → Bool
is_integer [] = false
is_integer (c ∷ cs) = cond (c == 45) (is_whole_number cs) (is_whole_number (c ∷ cs))

-- the number that an integer stands for
abbrev pub integer_value : List ℕ → ℤ
integer_value [] = pos 0
integer_value (c ∷ cs) = cond (c == 45) (neg_ℤ (pos (digits_value 10 cs))) (pos (digits_value 10 (c ∷ cs)))

-- 32 bits, one of them for the sign, hold the number. Specification: 3.5.1 Int
abbrev pub FitsInt : ℤ → Type 0
FitsInt n = (neg_ℤ (pos 2147483648) ≤ℤ n) × (n ≤ℤ pos 2147483647)

-- one digit or more
abbrev pub is_digits : List ℕ → Bool
is_digits [] = false
is_digits (d ∷ ds) = list_all is_ascii_digit (d ∷ ds)

-- `.` and digits
abbrev pub is_fraction : List ℕ → Bool
is_fraction [] = false
is_fraction (c ∷ ds) = c == 46 && is_digits ds

-- `e` or `E`, where an exponent begins
abbrev pub begins_exponent : ℕ → Bool
begins_exponent c = c == 101 || c == 69

-- where the integer of a float ends: `.`, `e` or `E`
abbrev pub ends_integer : ℕ → Bool
ends_integer c = c == 46 || begins_exponent c

-- digits, with a sign before them or not
abbrev pub is_signed_digits : List ℕ → Bool
is_signed_digits [] = false
is_signed_digits (c ∷ ds) = is_digits (c ∷ ds) || ((c == 43 || c == 45) && is_digits ds)

-- `e` or `E`, then digits with a sign before them or not
abbrev pub is_exponent : List ℕ → Bool
is_exponent [] = false
is_exponent (e ∷ ds) = begins_exponent e && is_signed_digits ds

-- no text at all
abbrev pub is_nothing : List ℕ → Bool
is_nothing [] = true
is_nothing (c ∷ cs) = false

-- a fraction, an exponent or both
abbrev pub is_fraction_or_exponent : List ℕ → List ℕ → Bool
is_fraction_or_exponent fraction exponent =
    (is_fraction fraction && is_nothing exponent) || (is_nothing fraction && is_exponent exponent) || (is_fraction fraction && is_exponent exponent)

-- a float: an integer, then a fraction, an exponent or both
pub record IsFloat (text : List ℕ) : Type 0 where
  pub whole : List ℕ
  pub fraction : List ℕ
  pub exponent : List ℕ
  pub written : text ≡ whole ++ (fraction ++ exponent)
  pub begins : IsTrue (is_integer whole)
  pub goes_on : IsTrue (is_fraction_or_exponent fraction exponent)
