-- The scan of one token answers by the grammar.
use Rattle.std.proofs.Common.{◌≡◌, ℕ, ◌<◌, ◌≤◌, Bool, true, false, cond, ◌&&◌, ◌||◌, ◌==◌, ◌⊎◌, inl, inr, List, [], ◌∷◌, ◌++◌, length, Option, Some, None, option_and_then, refl, sym, subst, ◌∙◌, ap, arith}
use Rattle.std.specs.List.{list_all}
use Rattle.std.specs.Char.{is_ascii_digit}
use Rattle.std.proofs.lemmas.Bool.Decides.{nat_tests}
use Rattle.std.proofs.lemmas.List.{append_assoc, length-append}
use Rattle.graphql_nodes.specs.Names.{is_name, starts_name, continues_name}
use Rattle.graphql_numbers.specs.Numbers.{is_whole_number, is_integer}
use Rattle.graphql_tokens.specs.Characters.{begins_with}
use Rattle.graphql_tokens.specs.Ignored.{IsLineTerminator, line_feed, carriage_return, carriage_return_line_feed, IsIgnored, byte_order_mark, tab, space, line_terminator, comment, comma}
use Rattle.graphql_tokens.specs.Strings.{AreStringCharacters, none, more, IsString, empty, characters, AreBlockCharacters, IsBlockString, block}
use Rattle.graphql_tokens.specs.Strings as strings
use Rattle.graphql_tokens.specs.Lexical.{punctuator, goes_on_number, IsToken, sign, spread, name, integer, float, string, block_string}
use Rattle.graphql_tokens.specs.Scans.{strip, after_run, number_at, quoted_at, sign_at, with_kind, token_at}
use Rattle.graphql_tokens.specs.declared.strings.StringPart.{StringPart}
use Rattle.graphql_tokens.specs.declared.token.TokenKind.{TokenKind}
use Rattle.graphql_tokens.specs.declared.token.TokenKind.TheVariants.{Spread, Name, IntValue, FloatValue}
use Rattle.graphql_tokens.proofs.ScanLemmas.{both_pass, same_number, chosen, and_then_is, strip_is, run_only, run_of}
use Rattle.graphql_tokens.proofs.NumberScans.{Numeral, SpellsNumber, number_is, read_integer, read_float}
use Rattle.graphql_tokens.proofs.StringScans.{character_shorter}
use Rattle.graphql_tokens.proofs.QuotedScans.{quoted_is, string_read, block_string_read, block_shorter}

-- what no punctuator of one character is: the start of a name or a number, a quote or a point
begins_longer : ℕ → Bool
begins_longer c = (starts_name c || (c == 45 || is_ascii_digit c)) || (c == 34 || c == 46)

differs : (c b : ℕ) → begins_longer c ≡ true → begins_longer b ≡ false → (c == b) ≡ false
differs c b e n = by (c == b) refl where
  by : (k : Bool) → (c == b) ≡ k → (c == b) ≡ false
  by true q = absurd (let same = same_number c b q in let h = rw same at e in let k : ⊥ = cc in k)
  by false q = q

no_sign : (c : ℕ) → begins_longer c ≡ true → punctuator c ≡ None
unfolding begins_longer
no_sign c e =
    rw (
      differs c 33 e refl,
      differs c 36 e refl,
      differs c 38 e refl,
      differs c 40 e refl,
      differs c 41 e refl,
      differs c 58 e refl,
      differs c 61 e refl,
      differs c 64 e refl,
      differs c 91 e refl,
      differs c 93 e refl,
      differs c 123 e refl,
      differs c 124 e refl,
      differs c 125 e refl,
    ) refl

apart : (c : ℕ) (kind : TokenKind) → punctuator c ≡ Some kind → begins_longer c ≡ false
apart c kind e = by (begins_longer c) refl where
  by : (k : Bool) → begins_longer c ≡ k → begins_longer c ≡ false
  by true q = absurd (let h = no_sign c q in let k : ⊥ = cc in k)
  by false q = q

neither : (a b : Bool) → (a || b) ≡ false → (a ≡ false) × (b ≡ false)
neither true b e = absurd (let h : ⊥ = cc in h)
neither false b e = (refl, e)

-- names and numbers begin as such
name_first : (c : ℕ) (cs : List ℕ) → is_name (c ∷ cs) ≡ true → starts_name c ≡ true
name_first c cs e = (both_pass (starts_name c) (list_all continues_name cs) e).0

whole_first : (c : ℕ) (cs : List ℕ) → is_whole_number (c ∷ cs) ≡ true → is_ascii_digit c ≡ true
whole_first c [] e = e
whole_first c (d ∷ ds) e =
    let front = both_pass (is_ascii_digit c && cond (c == 48) false true) (list_all is_ascii_digit (d ∷ ds)) e in
    (both_pass (is_ascii_digit c) (cond (c == 48) false true) front.0).0

integer_first : (c : ℕ) (cs : List ℕ) → is_integer (c ∷ cs) ≡ true → (c == 45 || is_ascii_digit c) ≡ true
integer_first c cs e = by (c == 45) refl e where
  by : (b : Bool) → (c == 45) ≡ b → cond b (is_whole_number cs) (is_whole_number (c ∷ cs)) ≡ true → (c == 45 || is_ascii_digit c) ≡ true
  by true q h = rw q refl
  by false q h = rw (q, whole_first c cs h) refl

number_no_name : (c : ℕ) → (c == 45 || is_ascii_digit c) ≡ true → starts_name c ≡ false
number_no_name c e = grind (arith, nat_tests)

-- a text that begins with an integer is scanned for a number
as_number : (t w r : List ℕ) (p : TokenKind × List ℕ) → t ≡ w ++ r → is_integer w ≡ true → number_at t ≡ Some p → token_at t ≡ Some p
unfolding token_at
as_number t [] r p written is e = absurd (let h : ⊥ = cc in h)
as_number t (c ∷ cs) r p written is e =
    let first = integer_first c cs is in
    let found : number_at (c ∷ (cs ++ r)) ≡ Some p = rw written at e in
    rw written (rw (number_no_name c first, first) found)

pub token_read : (kind : TokenKind) (t r : List ℕ) → IsToken kind t r → token_at t ≡ Some (kind, r)
unfolding token_at sign_at strip begins_longer
token_read _ _ _ (sign c kind rest is) =
    let all = neither (starts_name c || (c == 45 || is_ascii_digit c)) (c == 34 || c == 46) (apart c kind is) in
    let left = neither (starts_name c) (c == 45 || is_ascii_digit c) all.0 in
    let right = neither (c == 34) (c == 46) all.1 in
    rw (left.0, left.1, right.0, right.1, is) refl
token_read _ _ _ (spread rest) = refl
token_read _ _ _ (name t [] rest written is ends) = absurd (let h : ⊥ = cc in h)
token_read _ _ _ (name t (c ∷ cs) rest written is ends) =
    let h = both_pass (starts_name c) (list_all continues_name cs) is in
    rw (written, h.0, run_only continues_name cs rest h.1 ends) refl
token_read _ _ _ (integer t s rest written is ends) =
    as_number t s rest (IntValue, rest) written is (rw written (read_integer s rest is ends))
token_read _ _ _ (float t s rest written is ends) =
    as_number t is.whole ((is.fraction ++ is.exponent) ++ rest) (FloatValue, rest)
    (written ∙ ap (λ l. l ++ rest) is.written ∙ append_assoc is.whole (is.fraction ++ is.exponent) rest)
    is.begins (rw written (read_float s rest is ends))
token_read _ _ _ (string t rest parts is) =
    let (behind, quote, found) = string_read t parts rest is in
    rw quote found
token_read _ _ _ (block_string t rest raw is) =
    let (behind, quote, found) = block_string_read t raw rest is in
    rw quote found

of_number : (kind : TokenKind) (t s r : List ℕ) → SpellsNumber kind s → t ≡ s ++ r → begins_with goes_on_number r ≡ false → IsToken kind t r
of_number IntValue t s r is written ends = integer t s r written is ends
of_number FloatValue t s r is written ends = float t s r written is ends
of_number _ t s r is written ends = absurd is

spread_is : (cs : List ℕ) (p : TokenKind × List ℕ) → with_kind Spread (option_and_then (λ x. strip 46 x) (strip 46 cs)) ≡ Some p → IsToken p.0 (46 ∷ cs) p.1
spread_is cs p e =
    let (r, er, e1) = and_then_is (λ (r : List ℕ). Some (Spread, r)) (option_and_then (λ x. strip 46 x) (strip 46 cs)) p e in
    let (x, ex, e2) = and_then_is (λ (x : List ℕ). strip 46 x) (strip 46 cs) r er in
    let same : (Spread, r) ≡ p = cc in
    let written : cs ≡ 46 ∷ 46 ∷ r = strip_is 46 cs x ex ∙ ap (λ l. 46 ∷ l) (strip_is 46 x r e2) in
    subst (λ (q : TokenKind × List ℕ). IsToken q.0 (46 ∷ cs) q.1) same
    (subst (λ (l : List ℕ). IsToken Spread (46 ∷ l) r) (sym written) (spread r))

pub token_is : (t : List ℕ) (p : TokenKind × List ℕ) → token_at t ≡ Some p → IsToken p.0 t p.1
unfolding token_at sign_at Numeral
token_is [] p e = absurd (let h : ⊥ = cc in h)
token_is (c ∷ cs) p e = by_name (chosen (starts_name c) (Some (Name, after_run continues_name cs)) _ (Some p) e) where
  Is : Type 0
  Is = IsToken p.0 (c ∷ cs) p.1

  Short : Option (TokenKind × List ℕ)
  Short = option_and_then (λ (kind : TokenKind). Some (kind, cs)) (punctuator c)

  Point : Option (TokenKind × List ℕ)
  Point = with_kind Spread (option_and_then (λ x. strip 46 x) (strip 46 cs))

  short : Short ≡ Some p → Is
  short e =
      let (kind, is, e1) = and_then_is (λ (kind : TokenKind). Some (kind, cs)) (punctuator c) p e in
      let same : (kind, cs) ≡ p = cc in
      subst (λ (q : TokenKind × List ℕ). IsToken q.0 (c ∷ cs) q.1) same (sign c kind cs is)

  by_point : ((c == 46) ≡ true) × (Point ≡ Some p) ⊎ ((c == 46) ≡ false) × (Short ≡ Some p) → Is
  by_point (inl h) = rw (same_number c 46 h.0) (spread_is cs p h.1)
  by_point (inr h) = short h.1

  by_quote : ((c == 34) ≡ true) × (quoted_at cs ≡ Some p) ⊎ ((c == 34) ≡ false) × (cond (c == 46) Point Short ≡ Some p) → Is
  by_quote (inl h) = rw (same_number c 34 h.0) (quoted_is cs p h.1)
  by_quote (inr h) = by_point (chosen (c == 46) Point Short (Some p) h.1)

  by_number : ((c == 45 || is_ascii_digit c) ≡ true) × (number_at (c ∷ cs) ≡ Some p) ⊎ ((c == 45 || is_ascii_digit c) ≡ false) × (cond (c == 34) (quoted_at cs) (cond (c == 46) Point Short) ≡ Some p) → Is
  by_number (inl h) = let ((s, written, spells), ends) = number_is (c ∷ cs) p h.1 in of_number p.0 (c ∷ cs) s p.1 spells written ends
  by_number (inr h) = by_quote (chosen (c == 34) (quoted_at cs) (cond (c == 46) Point Short) (Some p) h.1)

  by_name : (starts_name c ≡ true) × (Some (Name, after_run continues_name cs) ≡ Some p) ⊎ (starts_name c ≡ false) × (cond (c == 45 || is_ascii_digit c) (number_at (c ∷ cs)) (cond (c == 34) (quoted_at cs) (cond (c == 46) Point Short)) ≡ Some p) → Is
  by_name (inl h) =
      let (run, is) = run_of continues_name cs in
      let same : (Name, after_run continues_name cs) ≡ p = let k = h.1 in cc in
      let spells : is_name (c ∷ run) ≡ true = rw h.0 is.each in
      subst (λ (q : TokenKind × List ℕ). IsToken q.0 (c ∷ cs) q.1) same
      (name (c ∷ cs) (c ∷ run) (after_run continues_name cs) (ap (λ l. c ∷ l) is.written) spells is.ends)
  by_name (inr h) = by_number (chosen (c == 45 || is_ascii_digit c) (number_at (c ∷ cs)) (cond (c == 34) (quoted_at cs) (cond (c == 46) Point Short)) (Some p) h.1)

-- no token begins where something is ignored
pub ignored_no_token : (t r : List ℕ) → IsIgnored t r → token_at t ≡ None
unfolding token_at sign_at
ignored_no_token _ _ (byte_order_mark rest) = refl
ignored_no_token _ _ (tab rest) = refl
ignored_no_token _ _ (space rest) = refl
ignored_no_token _ _ (comma rest) = refl
ignored_no_token _ _ (line_terminator t r is) = ended t r is where
  ended : (t r : List ℕ) → IsLineTerminator t r → token_at t ≡ None
  ended _ _ (line_feed rest) = refl
  ended _ _ (carriage_return rest n) = refl
  ended _ _ (carriage_return_line_feed rest) = refl
ignored_no_token _ _ (comment t run rest is) = refl

-- each token takes bytes
strings_within : (t : List ℕ) (parts : List StringPart) (r : List ℕ) → AreStringCharacters t parts r → length r ≤ length t
strings_within _ _ _ (none rest) = omega arith
strings_within _ _ _ (more t middle rest part parts is are) = omega (arith, character_shorter t part middle is, strings_within middle parts rest are)

blocks_within : (t raw r : List ℕ) → AreBlockCharacters t raw r → length r ≤ length t
blocks_within _ _ _ (strings.AreBlockCharacters.none rest) = omega arith
blocks_within _ _ _ (strings.AreBlockCharacters.more t middle rest raw raws is are) = omega (arith, block_shorter t raw middle is, blocks_within middle raws rest are)

longer : (t s r : List ℕ) → t ≡ s ++ r → 0 < length s → length r < length t
longer t s r written some = omega (arith, ap length written, length-append s r)

some_name : (s : List ℕ) → is_name s ≡ true → 0 < length s
some_name [] e = absurd (let h : ⊥ = cc in h)
some_name (c ∷ cs) e = omega arith

some_integer : (s : List ℕ) → is_integer s ≡ true → 0 < length s
some_integer [] e = absurd (let h : ⊥ = cc in h)
some_integer (c ∷ cs) e = omega arith

pub token_shorter : (kind : TokenKind) (t r : List ℕ) → IsToken kind t r → length r < length t
token_shorter _ _ _ (sign c kind rest is) = omega arith
token_shorter _ _ _ (spread rest) = omega arith
token_shorter _ _ _ (name t s rest written is ends) = longer t s rest written (some_name s is)
token_shorter _ _ _ (integer t s rest written is ends) = longer t s rest written (some_integer s is)
token_shorter _ _ _ (float t s rest written is ends) =
    longer t s rest written (omega (arith, some_integer is.whole is.begins, ap length is.written, length-append is.whole (is.fraction ++ is.exponent)))
token_shorter _ _ _ (string t rest parts is) = within t parts rest is where
  within : (t : List ℕ) (parts : List StringPart) (r : List ℕ) → IsString t parts r → length r < length t
  within _ _ _ (empty rest n) = omega arith
  within _ _ _ (characters t middle rest part parts is are) = omega (arith, character_shorter t part middle is, strings_within middle parts (34 ∷ rest) are)
token_shorter _ _ _ (block_string t rest raw is) = within t raw rest is where
  within : (t raw r : List ℕ) → IsBlockString t raw r → length r < length t
  within _ _ _ (block t raw rest are) = omega (arith, blocks_within t raw (34 ∷ 34 ∷ 34 ∷ rest) are)
