-- The scans of strings answer by the grammar of strings.
use Rattle.std.proofs.Common.{◌≡◌, ℕ, ◌+◌, ◌*◌, ◌<◌, ◌≤◌, Bool, true, false, cond, ◌==◌, inl, inr, List, [], ◌∷◌, ◌++◌, length, Option, Some, None, option_and_then, nat_lt, refl, sym, subst, ◌∙◌, ap, arith}
use Rattle.std.proofs.lemmas.Bool.Decides.{nat_tests}
use Rattle.std.proofs.lemmas.List.{length-append}
use Rattle.graphql_tokens.specs.Strings.{hex_digit, hex_value, hex_value_behind, is_leading_surrogate, is_trailing_surrogate, is_scalar_value, pair_value, IsEscapedUnicode, four_digits, surrogate_pair, braces, escaped_character, is_string_byte, IsStringCharacter, plain, unicode, escaped}
use Rattle.graphql_tokens.specs.Scans.{strip, hex_digit_at, four_digits_at, digits_behind, scalar_with, braced_at, trailing_at, fixed_at, unicode_at, escape_at, string_character_at, past_string_character}
use Rattle.graphql_tokens.specs.declared.strings.StringPart.{StringPart}
use Rattle.graphql_tokens.specs.declared.strings.StringPart.TheVariants.{Byte, Escaped}
use Rattle.graphql_tokens.proofs.ScanLemmas.{same_number, chosen, guarded, guards, and_then_is, strip_is}

-- one digit
digit_is : (t : List ℕ) (p : ℕ × List ℕ) → hex_digit_at t ≡ Some p → (c : ℕ) × (t ≡ c ∷ p.1) × (hex_digit c ≡ Some p.0)
unfolding hex_digit_at
digit_is [] p e = absurd (let h : ⊥ = cc in h)
digit_is (c ∷ cs) p e =
    let (d, value, same) = and_then_is (λ (d : ℕ). Some (d, cs)) (hex_digit c) p e in
    let both : (d, cs) ≡ p = cc in
    subst (λ q. (b : ℕ) × (c ∷ cs ≡ b ∷ q.1) × (hex_digit b ≡ Some q.0)) both (c, refl, value)

digit_read : (c d : ℕ) (r : List ℕ) → hex_digit c ≡ Some d → hex_digit_at (c ∷ r) ≡ Some (d, r)
unfolding hex_digit_at
digit_read c d r e = rw e refl

-- four of them
pub four_are : (t : List ℕ) (p : ℕ × List ℕ) → four_digits_at t ≡ Some p →
    (a b c d : ℕ) × (t ≡ a ∷ b ∷ c ∷ d ∷ p.1) × (hex_value (a ∷ b ∷ c ∷ d ∷ []) ≡ Some p.0)
unfolding four_digits_at
four_are t p e =
    let (x, ex, e1) = and_then_is _ (hex_digit_at t) p e in
    let (y, ey, e2) = and_then_is _ (hex_digit_at x.1) p e1 in
    let (z, ez, e3) = and_then_is _ (hex_digit_at y.1) p e2 in
    let (w, ew, e4) = and_then_is _ (hex_digit_at z.1) p e3 in
    let (a, ta, va) = digit_is t x ex in
    let (b, tb, vb) = digit_is x.1 y ey in
    let (c, tc, vc) = digit_is y.1 z ez in
    let (d, td, vd) = digit_is z.1 w ew in
    let both : (16 * (16 * (16 * x.0 + y.0) + z.0) + w.0, w.1) ≡ p = cc in
    let written : t ≡ a ∷ b ∷ c ∷ d ∷ w.1 = ta ∙ ap (λ l. a ∷ l) (tb ∙ ap (λ l. b ∷ l) (tc ∙ ap (λ l. c ∷ l) td)) in
    let value : hex_value (a ∷ b ∷ c ∷ d ∷ []) ≡ Some (16 * (16 * (16 * x.0 + y.0) + z.0) + w.0) = rw (va, vb, vc, vd) refl in
    subst (λ q. (a b c d : ℕ) × (t ≡ a ∷ b ∷ c ∷ d ∷ q.1) × (hex_value (a ∷ b ∷ c ∷ d ∷ []) ≡ Some q.0)) both (a, b, c, d, written, value)

pub four_read : (a b c d code : ℕ) (r : List ℕ) → hex_value (a ∷ b ∷ c ∷ d ∷ []) ≡ Some code → four_digits_at (a ∷ b ∷ c ∷ d ∷ r) ≡ Some (code, r)
unfolding four_digits_at
four_read a b c d code r e =
    let (x, ex, e1) = and_then_is (λ (n : ℕ). hex_value_behind n (b ∷ c ∷ d ∷ [])) (hex_digit a) code e in
    let (y, ey, e2) = and_then_is (λ (n : ℕ). hex_value_behind (16 * x + n) (c ∷ d ∷ [])) (hex_digit b) code e1 in
    let (z, ez, e3) = and_then_is (λ (n : ℕ). hex_value_behind (16 * (16 * x + y) + n) (d ∷ [])) (hex_digit c) code e2 in
    let (w, ew, e4) = and_then_is (λ (n : ℕ). hex_value_behind (16 * (16 * (16 * x + y) + z) + n) []) (hex_digit d) code e3 in
    let same : 16 * (16 * (16 * x + y) + z) + w ≡ code = cc in
    rw (digit_read a x (b ∷ c ∷ d ∷ r) ex, digit_read b y (c ∷ d ∷ r) ey, digit_read c z (d ∷ r) ez, digit_read d w r ew, same) refl

-- digits in braces
digits_are : (value : ℕ) (t : List ℕ) (p : ℕ × List ℕ) → digits_behind value t ≡ Some p →
    (ds : List ℕ) × (t ≡ ds ++ p.1) × (hex_value_behind value ds ≡ Some p.0)
digits_are value [] p e =
    let both : (value, []) ≡ p = cc in
    ([], rw (← both) refl, rw (← both) refl)
digits_are value (c ∷ cs) p e = by (hex_digit c) refl e (λ n. digits_are n cs p) where
  by : (o : Option ℕ) → hex_digit c ≡ o →
      elim o [ None ↦ Some (value, c ∷ cs) | Some d ↦ cond (nat_lt 1114111 (16 * value + d)) None (digits_behind (16 * value + d) cs) ] ≡ Some p →
      ((n : ℕ) → digits_behind n cs ≡ Some p → (ds : List ℕ) × (cs ≡ ds ++ p.1) × (hex_value_behind n ds ≡ Some p.0)) →
      (ds : List ℕ) × (c ∷ cs ≡ ds ++ p.1) × (hex_value_behind value ds ≡ Some p.0)
  by None h e more =
      let both : (value, c ∷ cs) ≡ p = cc in
      ([], rw (← both) refl, rw (← both) refl)
  by (Some d) h e more =
      elim (chosen (nat_lt 1114111 (16 * value + d)) None (digits_behind (16 * value + d) cs) (Some p) e) [
        | inl f ↦ absurd (let k = f.1 in let h : ⊥ = cc in h)
        | inr f ↦
            let (ds, written, is) = more (16 * value + d) f.1 in
            (c ∷ ds, ap (λ l. c ∷ l) written, rw h is)
      ]

grows : (value : ℕ) (ds : List ℕ) (code : ℕ) → hex_value_behind value ds ≡ Some code → value ≤ code
grows value [] code e = let same : value ≡ code = cc in omega arith
grows value (c ∷ cs) code e =
    let (d, ed, e1) = and_then_is (λ (n : ℕ). hex_value_behind (16 * value + n) cs) (hex_digit c) code e in
    omega (arith, grows (16 * value + d) cs code e1)

small : (n m : ℕ) → n ≤ m → m ≤ 1114111 → nat_lt 1114111 n ≡ false
small n m a b = grind (arith, nat_tests)

digits_read : (value : ℕ) (ds : List ℕ) (code : ℕ) (r : List ℕ) → hex_value_behind value ds ≡ Some code → code ≤ 1114111 →
    digits_behind value (ds ++ 125 ∷ r) ≡ Some (code, 125 ∷ r)
digits_read value [] code r e b = let same : value ≡ code = cc in rw same refl
digits_read value (c ∷ cs) code r e b =
    let (d, ed, e1) = and_then_is (λ (n : ℕ). hex_value_behind (16 * value + n) cs) (hex_digit c) code e in
    rw (ed, small (16 * value + d) code (grows (16 * value + d) cs code e1) b, digits_behind) (digits_read (16 * value + d) cs code r e1 b)

-- scalar values
scalar_is : (code : ℕ) (r : List ℕ) (p : ℕ × List ℕ) → scalar_with code r ≡ Some p → (is_scalar_value code ≡ true) × ((code, r) ≡ p)
unfolding scalar_with
scalar_is code r p e = guarded (is_scalar_value code) (code, r) p e

scalar_read : (code : ℕ) (r : List ℕ) → is_scalar_value code ≡ true → scalar_with code r ≡ Some (code, r)
unfolding scalar_with
scalar_read code r e = rw e refl

scalar_bound : (code : ℕ) → is_scalar_value code ≡ true → code ≤ 1114111
scalar_bound code e = grind (arith, nat_tests)

leading_no_scalar : (code : ℕ) → is_scalar_value code ≡ true → is_leading_surrogate code ≡ false
leading_no_scalar code e = grind (arith, nat_tests)

pub pair_scalar : (a b : ℕ) → is_leading_surrogate a ≡ true → is_trailing_surrogate b ≡ true → is_scalar_value (pair_value a b) ≡ true
pair_scalar a b e f = grind (arith, nat_tests)

braced_is : (t : List ℕ) (p : ℕ × List ℕ) → braced_at t ≡ Some p → IsEscapedUnicode (123 ∷ t) p.0 p.1
unfolding braced_at
braced_is t p e =
    let (x, ex, e1) = and_then_is _ (hex_digit_at t) p e in
    let (y, ey, e2) = and_then_is _ (digits_behind x.0 x.1) p e1 in
    let (z, ez, e3) = and_then_is _ (strip 125 y.1) p e2 in
    let (is, both) = scalar_is y.0 z p e3 in
    let (c, tc, vc) = digit_is t x ex in
    let (ds, td, vd) = digits_are x.0 x.1 y ey in
    let closed = strip_is 125 y.1 z ez in
    rw (← both) (braces t (c ∷ ds) y.0 z (tc ∙ ap (λ l. c ∷ l) (td ∙ ap (λ l. ds ++ l) closed)) (rw vc vd) is)

fixed_is : (t : List ℕ) (p : ℕ × List ℕ) → fixed_at t ≡ Some p → IsEscapedUnicode t p.0 p.1
unfolding fixed_at trailing_at
fixed_is t p e =
    let (x, ex, e1) = and_then_is _ (four_digits_at t) p e in
    let (a, b, c, d, tx, vx) = four_are t x ex in
    subst (λ (l : List ℕ). IsEscapedUnicode l p.0 p.1) (sym tx) (elim (chosen (is_leading_surrogate x.0) (trailing_at x.0 x.1) (scalar_with x.0 x.1) (Some p) e1) [
      | inl h ↦
          let (y, ey, e2) = and_then_is _ (strip 92 x.1) p h.1 in
          let (z, ez, e3) = and_then_is _ (strip 117 y) p e2 in
          let (w, ew, e4) = and_then_is _ (four_digits_at z) p e3 in
          let (f, g, i, j, tw, vw) = four_are z w ew in
          let (low, last) = guards (is_trailing_surrogate w.0) (scalar_with (pair_value x.0 w.0) w.1) p e4 in
          let (is, both) = scalar_is (pair_value x.0 w.0) w.1 p last in
          let behind : x.1 ≡ 92 ∷ 117 ∷ f ∷ g ∷ i ∷ j ∷ w.1 = strip_is 92 x.1 y ey ∙ ap (λ l. 92 ∷ l) (strip_is 117 y z ez ∙ ap (λ l. 117 ∷ l) tw) in
          subst (λ (l : List ℕ). IsEscapedUnicode (a ∷ b ∷ c ∷ d ∷ l) p.0 p.1) (sym behind)
          (subst (λ (q : ℕ × List ℕ). IsEscapedUnicode (a ∷ b ∷ c ∷ d ∷ 92 ∷ 117 ∷ f ∷ g ∷ i ∷ j ∷ w.1) q.0 q.1) both
          (surrogate_pair a b c d f g i j x.0 w.0 w.1 vx h.0 vw low))
      | inr h ↦
          let (is, both) = scalar_is x.0 x.1 p h.1 in
          subst (λ (q : ℕ × List ℕ). IsEscapedUnicode (a ∷ b ∷ c ∷ d ∷ x.1) q.0 q.1) both (four_digits a b c d x.0 x.1 vx is)
    ])

pub unicode_is : (t : List ℕ) (p : ℕ × List ℕ) → unicode_at t ≡ Some p → IsEscapedUnicode t p.0 p.1
unfolding unicode_at
unicode_is t p e = by (strip 123 t) refl e where
  by : (o : Option (List ℕ)) → strip 123 t ≡ o → elim o [ None ↦ fixed_at t | Some digits ↦ braced_at digits ] ≡ Some p → IsEscapedUnicode t p.0 p.1
  by None s e = fixed_is t p e
  by (Some digits) s e = rw (strip_is 123 t digits s) (braced_is digits p e)

-- a digit is no brace
no_brace : (a : ℕ) (more : ℕ → Option ℕ) (code : ℕ) → option_and_then more (hex_digit a) ≡ Some code → (a == 123) ≡ false
no_brace a more code e = by (a == 123) refl where
  by : (b : Bool) → (a == 123) ≡ b → (a == 123) ≡ false
  by true q = absurd (let same = same_number a 123 q in let h = rw same at e in let k : ⊥ = cc in k)
  by false q = q

pub unicode_read : (t : List ℕ) (code : ℕ) (r : List ℕ) → IsEscapedUnicode t code r → unicode_at t ≡ Some (code, r)
unfolding unicode_at fixed_at trailing_at braced_at strip
unicode_read _ _ _ (four_digits a b c d code rest value is) =
    rw (no_brace a (λ (n : ℕ). hex_value_behind n (b ∷ c ∷ d ∷ [])) code value, four_read a b c d code rest value, leading_no_scalar code is, unicode_at, fixed_at) (scalar_read code rest is)
unicode_read _ _ _ (surrogate_pair a b c d e f g h x y rest high is_high low is_low) =
    rw (no_brace a (λ (n : ℕ). hex_value_behind n (b ∷ c ∷ d ∷ [])) x high, four_read a b c d x (92 ∷ 117 ∷ e ∷ f ∷ g ∷ h ∷ rest) high, is_high, four_read e f g h y rest low, is_low, unicode_at, fixed_at, trailing_at)
    (scalar_read (pair_value x y) rest (pair_scalar x y is_high is_low))
unicode_read _ _ _ (braces t [] code rest written value is) = absurd (let h : ⊥ = cc in h)
unicode_read _ _ _ (braces t (c ∷ ds) code rest written value is) =
    let (x, ex, e1) = and_then_is (λ (n : ℕ). hex_value_behind n ds) (hex_digit c) code value in
    rw (written, digit_read c x (ds ++ 125 ∷ rest) ex, digits_read x ds code rest e1 (scalar_bound code is), unicode_at, braced_at) (scalar_read code rest is)

unicode_shorter : (t : List ℕ) (code : ℕ) (r : List ℕ) → IsEscapedUnicode t code r → length r < length t
unicode_shorter _ _ _ (four_digits a b c d code rest value is) = omega arith
unicode_shorter _ _ _ (surrogate_pair a b c d e f g h x y rest high is_high low is_low) = omega arith
unicode_shorter _ _ _ (braces t ds code rest written value is) = omega (arith, ap length written, length-append ds (125 ∷ rest))

-- string characters
escape_is : (t : List ℕ) (x : ℕ × List ℕ) → escape_at t ≡ Some x → IsStringCharacter (92 ∷ t) (Escaped x.0) x.1
unfolding escape_at
escape_is [] x e = absurd (let h : ⊥ = cc in h)
escape_is (c ∷ cs) x e =
    elim (chosen (c == 117) (unicode_at cs) (option_and_then (λ (code : ℕ). Some (code, cs)) (escaped_character c)) (Some x) e) [
      | inl h ↦ rw (same_number c 117 h.0) (unicode cs x.0 x.1 (unicode_is cs x h.1))
      | inr h ↦
          let (code, is, e1) = and_then_is (λ (code : ℕ). Some (code, cs)) (escaped_character c) x h.1 in
          let both : (code, cs) ≡ x = cc in
          subst (λ q. IsStringCharacter (92 ∷ c ∷ cs) (Escaped q.0) q.1) both (escaped c code cs is)
    ]

pub character_is : (t : List ℕ) (p : StringPart × List ℕ) → string_character_at t ≡ Some p → IsStringCharacter t p.0 p.1
unfolding string_character_at
character_is [] p e = absurd (let h : ⊥ = cc in h)
character_is (c ∷ cs) p e =
    elim (chosen (c == 92) (option_and_then (λ (x : ℕ × List ℕ). Some (Escaped x.0, x.1)) (escape_at cs)) (cond (is_string_byte c) (Some (Byte c, cs)) None) (Some p) e) [
      | inl h ↦
          let (x, ex, e1) = and_then_is (λ (x : ℕ × List ℕ). Some (Escaped x.0, x.1)) (escape_at cs) p h.1 in
          let both : (Escaped x.0, x.1) ≡ p = cc in
          let slash = same_number c 92 h.0 in
          subst (λ (q : StringPart × List ℕ). IsStringCharacter (c ∷ cs) q.0 q.1) both (rw slash (escape_is cs x ex))
      | inr h ↦
          let (is, both) = guarded (is_string_byte c) (Byte c, cs) p h.1 in
          subst (λ (q : StringPart × List ℕ). IsStringCharacter (c ∷ cs) q.0 q.1) both (plain c cs is)
    ]

no_slash : (c : ℕ) → is_string_byte c ≡ true → (c == 92) ≡ false
no_slash c e = grind (arith, nat_tests)

pub no_quote : (c : ℕ) → is_string_byte c ≡ true → (c == 34) ≡ false
no_quote c e = grind (arith, nat_tests)

no_mark : (c code : ℕ) → escaped_character c ≡ Some code → (c == 117) ≡ false
no_mark c code e = by (c == 117) refl where
  by : (b : Bool) → (c == 117) ≡ b → (c == 117) ≡ false
  by true q = absurd (let same = same_number c 117 q in let h = rw same at e in let k : ⊥ = cc in k)
  by false q = q

pub character_read : (t : List ℕ) (part : StringPart) (r : List ℕ) → IsStringCharacter t part r → string_character_at t ≡ Some (part, r)
unfolding string_character_at escape_at
character_read _ _ _ (plain c rest is) = rw (is, no_slash c is) refl
character_read _ _ _ (unicode t code rest is) = rw (unicode_read t code rest is, escape_at) refl
character_read _ _ _ (escaped c code rest is) = rw (no_mark c code is, is, escape_at) refl

pub character_shorter : (t : List ℕ) (part : StringPart) (r : List ℕ) → IsStringCharacter t part r → length r < length t
character_shorter _ _ _ (plain c rest is) = omega arith
character_shorter _ _ _ (unicode t code rest is) = omega (arith, unicode_shorter t code rest is)
character_shorter _ _ _ (escaped c code rest is) = omega arith

-- the scan of one character, without what it stands for
pub past_shrinks : (t r : List ℕ) → past_string_character t ≡ Some r → length r < length t
past_shrinks t r e =
    let (p, ep, e1) = and_then_is (λ (p : StringPart × List ℕ). Some p.1) (string_character_at t) r e in
    let same : p.1 ≡ r = cc in
    rw (← same) (character_shorter t p.0 p.1 (character_is t p ep))

pub past_plain : (c : ℕ) (cs : List ℕ) → is_string_byte c ≡ true → past_string_character (c ∷ cs) ≡ Some cs
past_plain c cs is = rw (character_read (c ∷ cs) (Byte c) cs (plain c cs is)) refl
