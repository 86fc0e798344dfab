-- The scans of numbers answer by the grammar of numbers.
use Rattle.std.proofs.Common.{◌≡◌, ℕ, Bool, true, false, cond, ◌&&◌, ◌||◌, ◌==◌, inl, inr, List, [], ◌∷◌, ◌++◌, Option, Some, None, refl, sym, subst, ◌∙◌, ap, arith}
use Rattle.std.specs.List.{list_all}
use Rattle.std.specs.Char.{is_ascii_digit}
use Rattle.std.proofs.lemmas.Bool.Decides.{nat_tests}
use Rattle.std.proofs.lemmas.List.{append_assoc}
use Rattle.graphql_numbers.specs.Numbers.{is_whole_number, is_integer, is_digits, is_fraction, begins_exponent, is_signed_digits, is_exponent, is_fraction_or_exponent, IsFloat}
use Rattle.graphql_tokens.specs.Characters.{begins_with}
use Rattle.graphql_tokens.specs.Lexical.{goes_on_number}
use Rattle.graphql_tokens.specs.Scans.{strip, after_run, digits_at, whole_at, integer_at, fraction_at, after_sign, exponent_at, number_behind, ended, number_at}
use Rattle.graphql_tokens.specs.declared.token.TokenKind.{TokenKind}
use Rattle.graphql_tokens.specs.declared.token.TokenKind.TheVariants.{IntValue, FloatValue}
use Rattle.graphql_tokens.proofs.ScanLemmas.{both_pass, one_passes, or_true, same_number, chosen, guards, and_then_is, strip_is, strip_none, strip_fails, run_only, run_of}

-- the rest is behind a front of which this holds
abbrev pub Front : (List ℕ → Bool) → List ℕ → List ℕ → Type 0
Front test text rest = (front : List ℕ) × (text ≡ front ++ rest) × (test front ≡ true)

-- no digit comes
abbrev pub NoDigit : List ℕ → Type 0
NoDigit rest = begins_with is_ascii_digit rest ≡ false

pub digits_is : (t r : List ℕ) → digits_at t ≡ Some r → Front is_digits t r
unfolding digits_at
digits_is [] r e = absurd (let h : ⊥ = cc in h)
digits_is (c ∷ cs) r e =
    let h = guards (is_ascii_digit c) (Some (after_run is_ascii_digit cs)) r e in
    let run = run_of is_ascii_digit cs in
    let rest : after_run is_ascii_digit cs ≡ r = cc in
    (c ∷ run.0, rw (← rest) (ap (λ l. c ∷ l) run.1.written), rw h.0 run.1.each)

no_digits : (r : List ℕ) → digits_at [] ≡ Some r → ⊥
unfolding digits_at
no_digits r e = cc

pub digits_read : (ds r : List ℕ) → is_digits ds ≡ true → NoDigit r → digits_at (ds ++ r) ≡ Some r
unfolding digits_at
digits_read [] r e n = absurd (let h : ⊥ = cc in h)
digits_read (c ∷ cs) r e n =
    let h = both_pass (is_ascii_digit c) (list_all is_ascii_digit cs) e in
    rw h.0 (ap Some (run_only is_ascii_digit cs r h.1 n))

-- digits that do not begin with 0 are a whole number
whole_from : (c : ℕ) (ds : List ℕ) → (c == 48) ≡ false → is_digits (c ∷ ds) ≡ true → is_whole_number (c ∷ ds) ≡ true
whole_from c [] z e = (both_pass (is_ascii_digit c) true e).0
whole_from c (d ∷ ds) z e =
    let h = both_pass (is_ascii_digit c) (list_all is_ascii_digit (d ∷ ds)) e in
    rw (h.0, z) h.1

pub whole_is : (t r : List ℕ) → whole_at t ≡ Some r → Front is_whole_number t r
unfolding whole_at
whole_is [] r e = absurd (let h : ⊥ = cc in h)
whole_is (c ∷ cs) r e = elim (chosen (c == 48) (Some cs) (digits_at (c ∷ cs)) (Some r) e) [
  | inl h ↦
      let zero_first = same_number c 48 h.0 in
      let rest : cs ≡ r = cc in
      (c ∷ [], ap (λ l. c ∷ l) rest, rw zero_first refl)
  | inr h ↦ digits (digits_is (c ∷ cs) r h.1) h.0
] where
  digits : Front is_digits (c ∷ cs) r → (c == 48) ≡ false → Front is_whole_number (c ∷ cs) r
  digits ([], written, are) z = absurd (let h : ⊥ = cc in h)
  digits (d ∷ ds, written, are) z =
      let first : c ≡ d = cc in
      (d ∷ ds, written, whole_from d ds (rw first at z) are)

pub whole_read : (s r : List ℕ) → is_whole_number s ≡ true → NoDigit r → whole_at (s ++ r) ≡ Some r
unfolding whole_at
whole_read [] r e n = absurd (let h : ⊥ = cc in h)
whole_read (c ∷ []) r e n = by (c == 48) refl where
  by : (b : Bool) → (c == 48) ≡ b → cond b (Some r) (digits_at (c ∷ r)) ≡ Some r
  by true q = refl
  by false q = digits_read (c ∷ []) r (rw e refl) n
whole_read (c ∷ d ∷ ds) r e n =
    let front = both_pass (is_ascii_digit c && cond (c == 48) false true) (list_all is_ascii_digit (d ∷ ds)) e in
    let first = both_pass (is_ascii_digit c) (cond (c == 48) false true) front.0 in
    by (c == 48) refl first.1 (digits_read (c ∷ d ∷ ds) r (rw first.0 front.1) n) where
      by : (b : Bool) → (c == 48) ≡ b → cond b false true ≡ true → digits_at (c ∷ (d ∷ ds ++ r)) ≡ Some r → cond (c == 48) (Some (d ∷ ds ++ r)) (digits_at (c ∷ (d ∷ ds ++ r))) ≡ Some r
      by true q h e = absurd (let h : ⊥ = cc in h)
      by false q h e = rw q e

pub integer_is : (t r : List ℕ) → integer_at t ≡ Some r → Front is_integer t r
unfolding integer_at
integer_is t r e = by (strip 45 t) refl e where
  unsigned : strip 45 t ≡ None → Front is_whole_number t r → Front is_integer t r
  unsigned n ([], written, is) = absurd (let h : ⊥ = cc in h)
  unsigned n (c ∷ cs, written, is) =
      let no_minus : (c == 45) ≡ false = rw written at (strip_fails 45 t n) in
      (c ∷ cs, written, rw no_minus is)

  by : (o : Option (List ℕ)) → strip 45 t ≡ o → elim o [ None ↦ whole_at t | Some rest ↦ whole_at rest ] ≡ Some r → Front is_integer t r
  by None s e = unsigned s (whole_is t r e)
  by (Some rest) s e =
      let (front, written, is) = whole_is rest r e in
      (45 ∷ front, strip_is 45 t rest s ∙ ap (λ l. 45 ∷ l) written, is)

pub integer_read : (s r : List ℕ) → is_integer s ≡ true → NoDigit r → integer_at (s ++ r) ≡ Some r
unfolding integer_at strip
integer_read [] r e n = absurd (let h : ⊥ = cc in h)
integer_read (c ∷ cs) r e n = by (c == 45) refl e where
  by : (b : Bool) → (c == 45) ≡ b → cond b (is_whole_number cs) (is_whole_number (c ∷ cs)) ≡ true → integer_at (c ∷ (cs ++ r)) ≡ Some r
  by true q h = rw (q, strip, integer_at) (whole_read cs r h n)
  by false q h = rw (q, strip, integer_at) (whole_read (c ∷ cs) r h n)

pub fraction_is : (t r : List ℕ) → fraction_at t ≡ Some r → Front is_fraction t r
unfolding fraction_at
fraction_is t r e =
    let (rest, s, d) = and_then_is digits_at (strip 46 t) r e in
    let (front, written, are) = digits_is rest r d in
    (46 ∷ front, strip_is 46 t rest s ∙ ap (λ l. 46 ∷ l) written, are)

pub fraction_read : (f r : List ℕ) → is_fraction f ≡ true → NoDigit r → fraction_at (f ++ r) ≡ Some r
unfolding fraction_at strip
fraction_read [] r e n = absurd (let h : ⊥ = cc in h)
fraction_read (c ∷ cs) r e n =
    let h = both_pass (c == 46) (is_digits cs) e in
    rw h.0 (digits_read cs r h.1 n)

pub exponent_is : (t r : List ℕ) → exponent_at t ≡ Some r → Front is_exponent t r
unfolding exponent_at
exponent_is [] r e = absurd (let h : ⊥ = cc in h)
exponent_is (c ∷ cs) r e =
    let h = guards (begins_exponent c) (digits_at (after_sign cs)) r e in
    behind cs h.1 h.0 where
      signed : (d : ℕ) (ds : List ℕ) → (d == 43 || d == 45) ≡ true → Front is_digits ds r → begins_exponent c ≡ true → Front is_exponent (c ∷ d ∷ ds) r
      signed d ds sign (front, written, are) mark =
          (c ∷ d ∷ front, ap (λ l. c ∷ d ∷ l) written, rw (mark, sign, are) (or_true (is_digits (d ∷ front))))

      plain : (d : ℕ) (ds : List ℕ) → Front is_digits (d ∷ ds) r → begins_exponent c ≡ true → Front is_exponent (c ∷ d ∷ ds) r
      plain d ds ([], written, are) mark = absurd (let h : ⊥ = cc in h)
      plain d ds (f ∷ front, written, are) mark = (c ∷ f ∷ front, ap (λ l. c ∷ l) written, rw (mark, are) refl)

      behind : (rest : List ℕ) → digits_at (after_sign rest) ≡ Some r → begins_exponent c ≡ true → Front is_exponent (c ∷ rest) r
      behind [] e mark = absurd (no_digits r e)
      behind (d ∷ ds) e mark = by (d == 43 || d == 45) refl e where
        by : (b : Bool) → (d == 43 || d == 45) ≡ b → digits_at (cond b ds (d ∷ ds)) ≡ Some r → Front is_exponent (c ∷ d ∷ ds) r
        by true q e = signed d ds q (digits_is ds r e) mark
        by false q e = plain d ds (digits_is (d ∷ ds) r e) mark

-- a digit is no sign
digit_no_sign : (c : ℕ) → is_ascii_digit c ≡ true → (c == 43 || c == 45) ≡ false
digit_no_sign c e = grind (arith, nat_tests)

pub exponent_read : (f r : List ℕ) → is_exponent f ≡ true → NoDigit r → exponent_at (f ++ r) ≡ Some r
unfolding exponent_at
exponent_read [] r e n = absurd (let h : ⊥ = cc in h)
exponent_read (c ∷ []) r e n = absurd (let h = (both_pass (begins_exponent c) false e).1 in let k : ⊥ = cc in k)
exponent_read (c ∷ d ∷ ds) r e n =
    let h = both_pass (begins_exponent c) (is_signed_digits (d ∷ ds)) e in
    rw h.0 (elim (one_passes (is_digits (d ∷ ds)) ((d == 43 || d == 45) && is_digits ds) h.1) [
      | inl are ↦
          let first = both_pass (is_ascii_digit d) (list_all is_ascii_digit ds) are in
          rw (digit_no_sign d first.0) (digits_read (d ∷ ds) r are n)
      | inr signed ↦
          let parts = both_pass (d == 43 || d == 45) (is_digits ds) signed in
          rw parts.0 (digits_read ds r parts.1 n)
    ])

-- what follows a number is no digit, no `.` and no exponent
no_digit : (r : List ℕ) → begins_with goes_on_number r ≡ false → NoDigit r
no_digit [] e = refl
no_digit (c ∷ cs) e = grind (arith, nat_tests)

no_fraction : (r : List ℕ) → begins_with goes_on_number r ≡ false → fraction_at r ≡ None
unfolding fraction_at
no_fraction [] e = rw (strip_none 46 [] refl) refl
no_fraction (c ∷ cs) e =
    let other : (c == 46) ≡ false = grind (arith, nat_tests) in
    rw (strip_none 46 (c ∷ cs) other) refl

no_exponent : (r : List ℕ) → begins_with goes_on_number r ≡ false → exponent_at r ≡ None
unfolding exponent_at
no_exponent [] e = refl
no_exponent (c ∷ cs) e =
    let other : begins_exponent c ≡ false = grind (arith, nat_tests) in
    rw other refl

-- an exponent is no fraction, and no digit
exponent_no_fraction : (f r : List ℕ) → is_exponent f ≡ true → fraction_at (f ++ r) ≡ None
unfolding fraction_at
exponent_no_fraction [] r e = absurd (let h : ⊥ = cc in h)
exponent_no_fraction (c ∷ cs) r e =
    let h = both_pass (begins_exponent c) (is_signed_digits cs) e in
    let other : (c == 46) ≡ false = mark_no_point c h.0 in
    rw (strip_none 46 (c ∷ (cs ++ r)) other) refl where
      mark_no_point : (c : ℕ) → begins_exponent c ≡ true → (c == 46) ≡ false
      mark_no_point c e = grind (arith, nat_tests)

exponent_no_digit : (f r : List ℕ) → is_exponent f ≡ true → NoDigit (f ++ r)
exponent_no_digit [] r e = absurd (let h : ⊥ = cc in h)
exponent_no_digit (c ∷ cs) r e = mark_no_digit c (both_pass (begins_exponent c) (is_signed_digits cs) e).0 where
  mark_no_digit : (c : ℕ) → begins_exponent c ≡ true → is_ascii_digit c ≡ false
  mark_no_digit c e = grind (arith, nat_tests)

fraction_no_digit : (f r : List ℕ) → is_fraction f ≡ true → NoDigit (f ++ r)
fraction_no_digit [] r e = absurd (let h : ⊥ = cc in h)
fraction_no_digit (c ∷ cs) r e = point_no_digit c (both_pass (c == 46) (is_digits cs) e).0 where
  point_no_digit : (c : ℕ) → (c == 46) ≡ true → is_ascii_digit c ≡ false
  point_no_digit c e = grind (arith, nat_tests)

pub read_integer : (s r : List ℕ) → is_integer s ≡ true → begins_with goes_on_number r ≡ false → number_at (s ++ r) ≡ Some (IntValue, r)
unfolding number_at number_behind
read_integer s r e n =
    rw (integer_read s r e (no_digit r n), no_fraction r n, no_exponent r n, n, number_behind) refl

-- which parts of a float are there
data Parts : List ℕ → List ℕ → Type 0 where
  fraction_only : (f : List ℕ) → is_fraction f ≡ true → Parts f []
  exponent_only : (x : List ℕ) → is_exponent x ≡ true → Parts [] x
  both : (f x : List ℕ) → is_fraction f ≡ true → is_exponent x ≡ true → Parts f x

parts_of : (f x : List ℕ) → is_fraction_or_exponent f x ≡ true → Parts f x
parts_of [] [] e = absurd (let h : ⊥ = cc in h)
parts_of [] (c ∷ cs) e = by (is_exponent (c ∷ cs)) refl e where
  by : (b : Bool) → is_exponent (c ∷ cs) ≡ b → ((false || (true && b)) || (false && b)) ≡ true → Parts [] (c ∷ cs)
  by true q e = exponent_only (c ∷ cs) q
  by false q e = absurd (let h : ⊥ = cc in h)
parts_of (d ∷ ds) [] e = by (is_fraction (d ∷ ds)) refl e where
  by : (b : Bool) → is_fraction (d ∷ ds) ≡ b → (((b && true) || (false && false)) || (b && false)) ≡ true → Parts (d ∷ ds) []
  by true q e = fraction_only (d ∷ ds) q
  by false q e = absurd (let h : ⊥ = cc in h)
parts_of (d ∷ ds) (c ∷ cs) e = by (is_fraction (d ∷ ds)) (is_exponent (c ∷ cs)) refl refl e where
  by : (a b : Bool) → is_fraction (d ∷ ds) ≡ a → is_exponent (c ∷ cs) ≡ b → (((a && false) || (false && b)) || (a && b)) ≡ true → Parts (d ∷ ds) (c ∷ cs)
  by true true q p e = both (d ∷ ds) (c ∷ cs) q p
  by true false q p e = absurd (let h : ⊥ = cc in h)
  by false true q p e = absurd (let h : ⊥ = cc in h)
  by false false q p e = absurd (let h : ⊥ = cc in h)

read_parts : (s f x r : List ℕ) → is_integer s ≡ true → Parts f x → begins_with goes_on_number r ≡ false → number_at (s ++ (f ++ (x ++ r))) ≡ Some (FloatValue, r)
unfolding number_at number_behind
read_parts s _ _ r e (fraction_only f is) n =
    rw (integer_read s (f ++ r) e (fraction_no_digit f r is), fraction_read f r is (no_digit r n), no_exponent r n, n, number_behind) refl
read_parts s _ _ r e (exponent_only x is) n =
    rw (integer_read s (x ++ r) e (exponent_no_digit x r is), exponent_no_fraction x r is, exponent_read x r is (no_digit r n), n, number_behind) refl
read_parts s _ _ r e (both f x is are) n =
    rw (integer_read s (f ++ (x ++ r)) e (fraction_no_digit f (x ++ r) is), fraction_read f (x ++ r) is (exponent_no_digit x r are), exponent_read x r are (no_digit r n), n, number_behind) refl

pub read_float : (s r : List ℕ) → IsFloat s → begins_with goes_on_number r ≡ false → number_at (s ++ r) ≡ Some (FloatValue, r)
read_float s r is n =
    let whole : s ++ r ≡ is.whole ++ (is.fraction ++ (is.exponent ++ r)) =
    ap (λ l. l ++ r) is.written ∙ append_assoc is.whole (is.fraction ++ is.exponent) r ∙ ap (λ l. is.whole ++ l) (append_assoc is.fraction is.exponent r) in
    rw whole (read_parts is.whole is.fraction is.exponent r is.begins (parts_of is.fraction is.exponent is.goes_on) n)

-- what a number is by its kind
abbrev pub SpellsNumber : TokenKind → List ℕ → Type 0
SpellsNumber IntValue s = is_integer s ≡ true
SpellsNumber FloatValue s = IsFloat s
SpellsNumber _ s = ⊥

fraction_alone : (f : Bool) → f ≡ true → (((f && true) || (false && false)) || (f && false)) ≡ true
fraction_alone true e = refl
fraction_alone false e = absurd (let h : ⊥ = cc in h)

float_of : (s f x : List ℕ) → is_integer s ≡ true → Parts f x → IsFloat (s ++ (f ++ x))
float_of s _ _ e (fraction_only f is) = record { whole = s; fraction = f; exponent = []; written = refl; begins = e; goes_on = goes f is } where
  goes : (f : List ℕ) → is_fraction f ≡ true → is_fraction_or_exponent f [] ≡ true
  goes [] is = absurd (let h : ⊥ = cc in h)
  goes (c ∷ cs) is = rw is refl
float_of s _ _ e (exponent_only x is) = record { whole = s; fraction = []; exponent = x; written = refl; begins = e; goes_on = rw is refl }
float_of s _ _ e (both f x is are) = record { whole = s; fraction = f; exponent = x; written = refl; begins = e; goes_on = goes f x is are } where
  goes : (f x : List ℕ) → is_fraction f ≡ true → is_exponent x ≡ true → is_fraction_or_exponent f x ≡ true
  goes [] x is are = absurd (let h : ⊥ = cc in h)
  goes (c ∷ cs) [] is are = absurd (let h : ⊥ = cc in h)
  goes (c ∷ cs) (d ∷ ds) is are = rw (is, are) refl

-- the text is a number of this kind, and the rest
unfoldable pub Numeral : List ℕ → TokenKind × List ℕ → Type 0
Numeral t q = (s : List ℕ) × (t ≡ s ++ q.1) × SpellsNumber q.0 s

module _ (t s whole : List ℕ) (written : t ≡ s ++ whole) (is : is_integer s ≡ true) where
  float_behind : (f x r : List ℕ) → whole ≡ f ++ (x ++ r) → Parts f x → Numeral t (FloatValue, r)
  unfolding Numeral
  float_behind f x r w parts =
      let all : t ≡ s ++ (f ++ x) ++ r =
      written ∙ ap (λ l. s ++ l) w ∙ sym (append_assoc s (f ++ x) r ∙ ap (λ l. s ++ l) (append_assoc f x r)) in
      (s ++ (f ++ x), all, float_of s f x is parts)

  after_fraction : (f rest : List ℕ) → whole ≡ f ++ rest → is_fraction f ≡ true → (o : Option (List ℕ)) → exponent_at rest ≡ o →
      Numeral t (elim o [ Some r ↦ (FloatValue, r) | None ↦ (FloatValue, rest) ])
  after_fraction f rest w isf None x = float_behind f [] rest w (fraction_only f isf)
  after_fraction f rest w isf (Some r) x =
      let (e, we, ise) = exponent_is rest r x in
      float_behind f e r (w ∙ ap (λ l. f ++ l) we) (both f e isf ise)

  without_fraction : (o : Option (List ℕ)) → exponent_at whole ≡ o →
      Numeral t (elim o [ Some r ↦ (FloatValue, r) | None ↦ (IntValue, whole) ])
  unfolding Numeral
  without_fraction None x = (s, written, is)
  without_fraction (Some r) x =
      let (e, we, ise) = exponent_is whole r x in
      float_behind [] e r we (exponent_only e ise)

  behind_is : Numeral t (number_behind whole)
  unfolding number_behind
  behind_is = by (fraction_at whole) refl where
    by : (o : Option (List ℕ)) → fraction_at whole ≡ o → Numeral t (elim o [
      | Some fraction ↦ elim (exponent_at fraction) [ Some rest ↦ (FloatValue, rest) | None ↦ (FloatValue, fraction) ]
      | None ↦ elim (exponent_at whole) [ Some rest ↦ (FloatValue, rest) | None ↦ (IntValue, whole) ]
    ])
    by (Some rest) x = let (f, wf, isf) = fraction_is whole rest x in after_fraction f rest wf isf (exponent_at rest) refl
    by None x = without_fraction (exponent_at whole) refl

ended_is : (q p : TokenKind × List ℕ) → ended q ≡ Some p → (begins_with goes_on_number q.1 ≡ false) × (q ≡ p)
ended_is q p e = elim (chosen (begins_with goes_on_number q.1) None (Some q) (Some p) e) [
  | inl h ↦ absurd (let k = h.1 in let b : ⊥ = cc in b)
  | inr h ↦ (h.0, let k = h.1 in let b : q ≡ p = cc in b)
]

-- the number that a scan found
pub number_is : (t : List ℕ) (p : TokenKind × List ℕ) → number_at t ≡ Some p → Numeral t p × (begins_with goes_on_number p.1 ≡ false)
unfolding number_at
number_is t p e =
    let (whole, ew, e1) = and_then_is (λ (w : List ℕ). ended (number_behind w)) (integer_at t) p e in
    let (s, written, is) = integer_is t whole ew in
    let (ends, same) = ended_is (number_behind whole) p e1 in
    (subst (λ q. Numeral t q) same (behind_is t s whole written is), subst (λ (q : TokenKind × List ℕ). begins_with goes_on_number q.1 ≡ false) same ends)
