-- The value of a text in UTF-8 is UTF-8.
use Rattle.std.proofs.Common.{◌≡◌, ℕ, zero, suc, ◌+◌, ◌*◌, ◌<◌, ◌≤◌, Bool, true, false, cond, ◌&&◌, ◌==◌, ◌⊎◌, inl, inr, nat_lt, List, [], ◌∷◌, ◌++◌, length, take, drop, get_or, map, reverse, fold, flat_map, position, Option, Some, None, refl, sym, subst, ◌∙◌, ap, append_assoc, arith}
use Rattle.std.specs.Prelude.{IsUtf8, encode_utf8}
use Rattle.std.specs.Char.{IsScalar}
use Rattle.std.proofs.Math.Utf8.{low_scalar}
use Rattle.std.proofs.lemmas.Bool.Decides.{nat_tests}
use Rattle.std.proofs.lemmas.List.{append-nil, length-append, take_at, drop_at, get_or_at, drop_more, reverse-append}
use Rattle.std.proofs.lemmas.List.Quantifiers.{position-Some}
use Rattle.std.proofs.lemmas.Str.{IsUtf8-nil, IsUtf8-append, IsUtf8-take, IsUtf8-drop, IsUtf8-encode, encode_ascii, IsCharBoundary-before_ascii, IsCharBoundary-after_ascii}
use Rattle.graphql_tokens.specs.Characters.{is_line_byte}
use Rattle.graphql_tokens.specs.Strings.{hex_digit, hex_value, hex_value_behind, is_scalar_value, pair_value, escaped_character, IsEscapedUnicode, four_digits, surrogate_pair, braces, IsStringCharacter, plain, unicode, escaped, AreStringCharacters, none, more, IsString, empty, characters, IsBlockCharacter, AreBlockCharacters, IsBlockString, block}
use Rattle.graphql_tokens.specs.Strings as strings
use Rattle.graphql_tokens.specs.declared.strings.StringPart.{StringPart}
use Rattle.graphql_tokens.proofs.ScanLemmas.{both_pass, same_number, and_then_is}
use Rattle.graphql_tokens.proofs.StringScans.{pair_scalar}
use Rattle.graphql_strings.specs.BlockStrings.{is_white_space, is_blank, split_lines, indent, least_indent, common_indent, without_indent, without_common_indent, without_first_blanks, without_last_blanks, join_lines, block_string_value}
use Rattle.graphql_strings.specs.Values.{part_value, StandsFor, string, block_string, HasStringValue}
use Rattle.graphql_strings.specs.Scans.{after_terminator, line_at}
use Rattle.graphql_tokens.specs.Lexical.{IsToken}
use Rattle.graphql_tokens.specs.declared.token.TokenKind.{TokenKind}
use Rattle.graphql_tokens.specs.declared.token.TokenKind.TheVariants.{StringValue, BlockString}
use Rattle.graphql_strings.proofs.TokenLemmas.{quotes_around, token_value}
use Rattle.graphql_strings.proofs.LineLemmas.{lines_none, lines_more, line_shrinks}

-- a text may be cut before an ASCII byte, and behind one
before_ascii : (a b : List ℕ) (c : ℕ) → c < 128 → IsUtf8 (a ++ c ∷ b) → IsUtf8 a × IsUtf8 (c ∷ b)
before_ascii a b c h u =
    let place : get_or (a ++ c ∷ b) (length a) 0 ≡ c = get_or_at a c b 0 (length a) refl in
    let within : length a < length (a ++ c ∷ b) = omega (arith, length-append a (c ∷ b)) in
    let cut = IsCharBoundary-before_ascii (a ++ c ∷ b) (length a) within (omega (arith, place)) in (
      subst IsUtf8 (take_at a (c ∷ b) (length a) refl) (IsUtf8-take (a ++ c ∷ b) (length a) u cut),
      subst IsUtf8 (drop_at a (c ∷ b) (length a) refl) (IsUtf8-drop (a ++ c ∷ b) (length a) u cut),
    )

after_ascii : (c : ℕ) (b : List ℕ) → c < 128 → IsUtf8 (c ∷ b) → IsUtf8 b
after_ascii c b h u = IsUtf8-drop (c ∷ b) 1 u (IsCharBoundary-after_ascii (c ∷ b) 0 u (omega arith) h)

ascii_then : (c : ℕ) (b : List ℕ) → c < 128 → IsUtf8 b → IsUtf8 (c ∷ b)
ascii_then c b h u = IsUtf8-append (c ∷ []) b (subst IsUtf8 (encode_ascii c h) (IsUtf8-encode c (low_scalar c (omega arith)))) u

AreAscii : List ℕ → Type 0
AreAscii [] = Unit {0}
AreAscii (c ∷ cs) = (c < 128) × AreAscii cs

after_asciis : (s rest : List ℕ) → AreAscii s → IsUtf8 (s ++ rest) → IsUtf8 rest
unfolding AreAscii
after_asciis [] rest a u = u
after_asciis (c ∷ cs) rest a u = after_asciis cs rest a.1 (after_ascii c (cs ++ rest) a.0 u)

-- escapes are ASCII, and stand for scalar values
hex_small : (c d : ℕ) → hex_digit c ≡ Some d → c < 128
hex_small c d e = grind (arith, nat_tests)

hex_behind_small : (value : ℕ) (ds : List ℕ) (code : ℕ) → hex_value_behind value ds ≡ Some code → AreAscii ds
unfolding AreAscii
hex_behind_small value [] code e = tt
hex_behind_small value (c ∷ cs) code e =
    let (d, ed, e1) = and_then_is (λ (d : ℕ). hex_value_behind (16 * value + d) cs) (hex_digit c) code e in
    (hex_small c d ed, hex_behind_small (16 * value + d) cs code e1)

hex_value_small : (ds : List ℕ) (code : ℕ) → hex_value ds ≡ Some code → AreAscii ds
unfolding AreAscii
hex_value_small [] code e = tt
hex_value_small (c ∷ cs) code e =
    let (d, ed, e1) = and_then_is (λ (d : ℕ). hex_value_behind d cs) (hex_digit c) code e in
    (hex_small c d ed, hex_behind_small d cs code e1)

scalar_is : (c : ℕ) → is_scalar_value c ≡ true → IsScalar c
scalar_is c e = grind (arith, nat_tests)

escaped_small : (c code : ℕ) → escaped_character c ≡ Some code → (c < 128) × (code < 128)
escaped_small c code e = (grind (arith, nat_tests), grind (arith, nat_tests))

unicode_rest : (t : List ℕ) (code : ℕ) (r : List ℕ) → IsEscapedUnicode t code r → IsUtf8 t → IsUtf8 r × IsScalar code
unicode_rest _ _ _ (four_digits a b c d code rest value is) u =
    (after_asciis (a ∷ b ∷ c ∷ d ∷ []) rest (hex_value_small (a ∷ b ∷ c ∷ d ∷ []) code value) u, scalar_is code is)
unicode_rest _ _ _ (surrogate_pair a b c d e f g h x y rest high is_high low is_low) u =
    let first = after_asciis (a ∷ b ∷ c ∷ d ∷ []) (92 ∷ 117 ∷ e ∷ f ∷ g ∷ h ∷ rest) (hex_value_small (a ∷ b ∷ c ∷ d ∷ []) x high) u in
    let second = after_ascii 117 (e ∷ f ∷ g ∷ h ∷ rest) (omega arith) (after_ascii 92 (117 ∷ e ∷ f ∷ g ∷ h ∷ rest) (omega arith) first) in
    (after_asciis (e ∷ f ∷ g ∷ h ∷ []) rest (hex_value_small (e ∷ f ∷ g ∷ h ∷ []) y low) second, scalar_is (pair_value x y) (pair_scalar x y is_high is_low))
unicode_rest _ _ _ (braces t digits code rest written value is) u =
    let inside = subst IsUtf8 written (after_ascii 123 t (omega arith) u) in
    (after_ascii 125 rest (omega arith) (after_asciis digits (125 ∷ rest) (hex_value_small digits code value) inside), scalar_is code is)

-- what is read so far and what is left make a text
character_text : (v t : List ℕ) (part : StringPart) (r : List ℕ) → IsStringCharacter t part r → IsUtf8 (v ++ t) → IsUtf8 ((v ++ part_value part) ++ r)
character_text v _ _ _ (plain c rest is) u = subst IsUtf8 (sym (append_assoc v (c ∷ []) rest)) u
character_text v _ _ _ (unicode t code rest is) u =
    let (read, left) = before_ascii v (117 ∷ t) 92 (omega arith) u in
    let (behind, scalar) = unicode_rest t code rest is (after_ascii 117 t (omega arith) (after_ascii 92 (117 ∷ t) (omega arith) left)) in
    IsUtf8-append (v ++ encode_utf8 code) rest (IsUtf8-append v (encode_utf8 code) read (IsUtf8-encode code scalar)) behind
character_text v _ _ _ (escaped c code rest is) u =
    let (read, left) = before_ascii v (c ∷ rest) 92 (omega arith) u in
    let (small, low) = escaped_small c code is in
    let behind = after_ascii c rest small (after_ascii 92 (c ∷ rest) (omega arith) left) in
    IsUtf8-append (v ++ encode_utf8 code) rest (IsUtf8-append v (encode_utf8 code) read (IsUtf8-encode code (low_scalar code (omega arith)))) behind

characters_text : (v t : List ℕ) (parts : List StringPart) (r : List ℕ) → AreStringCharacters t parts r → IsUtf8 (v ++ t) →
    IsUtf8 ((v ++ flat_map part_value parts) ++ r)
characters_text v _ _ _ (none rest) u = subst (λ (l : List ℕ). IsUtf8 (l ++ rest)) (sym (append-nil v)) u
characters_text v _ _ _ (more t middle rest part parts is are) u =
    subst (λ (l : List ℕ). IsUtf8 (l ++ rest)) (append_assoc v (part_value part) (flat_map part_value parts))
    (characters_text (v ++ part_value part) middle parts rest are (character_text v t part middle is u))

block_text : (v t raw r : List ℕ) → IsBlockCharacter t raw r → IsUtf8 (v ++ t) → IsUtf8 ((v ++ raw) ++ r)
block_text v _ _ _ (strings.IsBlockCharacter.quotes rest) u =
    let (read, left) = before_ascii v (34 ∷ 34 ∷ 34 ∷ rest) 92 (omega arith) u in
    let three = after_ascii 92 (34 ∷ 34 ∷ 34 ∷ rest) (omega arith) left in
    subst IsUtf8 (sym (append_assoc v (34 ∷ 34 ∷ 34 ∷ []) rest)) (IsUtf8-append v (34 ∷ 34 ∷ 34 ∷ rest) read three)
block_text v _ _ _ (strings.IsBlockCharacter.plain c rest is nq ne) u = subst IsUtf8 (sym (append_assoc v (c ∷ []) rest)) u

blocks_text : (v t raw r : List ℕ) → AreBlockCharacters t raw r → IsUtf8 (v ++ t) → IsUtf8 ((v ++ raw) ++ r)
blocks_text v _ _ _ (strings.AreBlockCharacters.none rest) u = subst (λ (l : List ℕ). IsUtf8 (l ++ rest)) (sym (append-nil v)) u
blocks_text v _ _ _ (strings.AreBlockCharacters.more t middle rest raw raws is are) u =
    subst (λ (l : List ℕ). IsUtf8 (l ++ rest)) (append_assoc v raw raws) (blocks_text (v ++ raw) middle raws rest are (block_text v t raw middle is u))

-- lists of texts
AreTexts : List (List ℕ) → Type 0
AreTexts [] = Unit {0}
AreTexts (line ∷ lines) = IsUtf8 line × AreTexts lines

texts_append : (xs ys : List (List ℕ)) → AreTexts xs → AreTexts ys → AreTexts (xs ++ ys)
unfolding AreTexts
texts_append [] ys a b = b
texts_append (x ∷ xs) ys a b = (a.0, texts_append xs ys a.1 b)

texts_reverse : (xs : List (List ℕ)) → AreTexts xs → AreTexts (reverse xs)
unfolding AreTexts
texts_reverse [] a = tt
texts_reverse (x ∷ xs) a = subst AreTexts (sym (reverse-append (x ∷ []) xs)) (texts_append (reverse xs) (x ∷ []) (texts_reverse xs a.1) (a.0, tt))

-- lines of a text
line_small : (c : ℕ) → is_line_byte c ≡ true → c < 128
line_small c e = grind (arith, nat_tests)

terminator_text : (c : ℕ) (cs : List ℕ) → is_line_byte c ≡ true → IsUtf8 (c ∷ cs) → IsUtf8 (after_terminator (c ∷ cs))
terminator_text c [] e u = IsUtf8-nil
terminator_text c (d ∷ rest) e u = by (c == 13 && d == 10) refl where
  by : (b : Bool) → (c == 13 && d == 10) ≡ b → IsUtf8 (after_terminator (c ∷ d ∷ rest))
  by true q =
      let small : d < 128 = omega (arith, same_number d 10 (both_pass (c == 13) (d == 10) q).1) in
      subst (λ (b : Bool). IsUtf8 (cond b rest (d ∷ rest))) (sym q) (after_ascii d rest small (after_ascii c (d ∷ rest) (line_small c e) u))
  by false q = subst (λ (b : Bool). IsUtf8 (cond b rest (d ∷ rest))) (sym q) (after_ascii c (d ∷ rest) (line_small c e) u)

line_text : (t : List ℕ) (p : List ℕ × List ℕ) → line_at t ≡ Some p → IsUtf8 t → IsUtf8 p.0 × IsUtf8 p.1
unfolding line_at
line_text t p e u =
    let (k, there, e1) = and_then_is (λ (k : ℕ). Some (take k t, after_terminator (drop k t))) (position is_line_byte t) p e in
    let both : (take k t, after_terminator (drop k t)) ≡ p = cc in
    let (within, ends, first) = position-Some is_line_byte t k 0 there in
    let cut = IsCharBoundary-before_ascii t k within (line_small (get_or t k 0) ends) in
    let from : drop k t ≡ get_or t k 0 ∷ drop (k + 1) t = drop_more t k 0 within in
    let behind = subst (λ (l : List ℕ). IsUtf8 (after_terminator l)) (sym from)
    (terminator_text (get_or t k 0) (drop (k + 1) t) ends (subst IsUtf8 from (IsUtf8-drop t k u cut))) in
    subst (λ (p : List ℕ × List ℕ). IsUtf8 p.0 × IsUtf8 p.1) both (IsUtf8-take t k u cut, behind)

lines_text : (n : ℕ) (t : List ℕ) → length t ≤ n → IsUtf8 t → AreTexts (split_lines t)
unfolding AreTexts
lines_text zero [] h u = (u, tt)
lines_text zero (c ∷ cs) h u = absurd (omega arith)
lines_text (suc n) t h u = by (line_at t) refl (λ r l v. lines_text n r l v) where
  by : (o : Option (List ℕ × List ℕ)) → line_at t ≡ o → ((r : List ℕ) → length r ≤ n → IsUtf8 r → AreTexts (split_lines r)) → AreTexts (split_lines t)
  by None e next = subst AreTexts (sym (lines_none t e)) (u, tt)
  by (Some p) e next =
      let (line, rest) = line_text t p e u in
      subst AreTexts (sym (lines_more t p e)) (line, next p.1 (omega (arith, line_shrinks t p e)) rest)

-- what is cut from a line is white space
CanCut : ℕ → List ℕ → Type 0
CanCut n line = (n ≤ indent line) ⊎ (is_blank line ≡ true)

cut_text : (n : ℕ) (line : List ℕ) → CanCut n line → IsUtf8 line → IsUtf8 (drop n line)
unfolding CanCut
cut_text zero line can u = u
cut_text (suc n) [] can u = IsUtf8-nil
cut_text (suc n) (c ∷ cs) can u = by (is_white_space c) refl can (cut_text n cs) where
  white : (c : ℕ) → is_white_space c ≡ true → c < 128
  white c e = grind (arith, nat_tests)

  by : (b : Bool) → is_white_space c ≡ b → (suc n ≤ cond b (1 + indent cs) 0) ⊎ ((b && is_blank cs) ≡ true) →
      ((n ≤ indent cs) ⊎ (is_blank cs ≡ true) → IsUtf8 cs → IsUtf8 (drop n cs)) → IsUtf8 (drop n cs)
  by true q (inl h) next = next (inl (omega arith)) (after_ascii c cs (white c q) u)
  by true q (inr h) next = next (inr h) (after_ascii c cs (white c q) u)
  by false q (inl h) next = absurd (omega arith)
  by false q (inr h) next = absurd (let k : ⊥ = cc in k)

blank_full : (line : List ℕ) → nat_lt (indent line) (length line) ≡ false → is_blank line ≡ true
blank_full [] e = refl
blank_full (c ∷ cs) e = by (is_white_space c) refl e (blank_full cs) where
  by : (b : Bool) → is_white_space c ≡ b → nat_lt (cond b (1 + indent cs) 0) (suc (length cs)) ≡ false →
      (nat_lt (indent cs) (length cs) ≡ false → is_blank cs ≡ true) → (b && is_blank cs) ≡ true
  by true q h next = next (grind (arith, nat_tests))
  by false q h next = absurd (grind (arith, nat_tests))

AllCut : ℕ → List (List ℕ) → Type 0
AllCut n [] = Unit {0}
AllCut n (line ∷ lines) = CanCut n line × AllCut n lines

Least : Option ℕ → ℕ → Type 0
Least None n = Unit {0}
Least (Some m) n = n ≤ m

least_step : (common : Option ℕ) (line : List ℕ) (n : ℕ) → Least (least_indent common line) n → Least common n × CanCut n line
unfolding Least CanCut
least_step None line n least = by (nat_lt (indent line) (length line)) refl least where
  by : (b : Bool) → nat_lt (indent line) (length line) ≡ b → Least (cond b (Some (indent line)) None) n → Unit {0} × ((n ≤ indent line) ⊎ (is_blank line ≡ true))
  by true q h = (tt, inl h)
  by false q h = (tt, inr (blank_full line q))
least_step (Some m) line n least = by (nat_lt (indent line) (length line)) (nat_lt (indent line) m) refl refl least where
  by : (a b : Bool) → nat_lt (indent line) (length line) ≡ a → nat_lt (indent line) m ≡ b → Least (cond (a && b) (Some (indent line)) (Some m)) n →
      (n ≤ m) × ((n ≤ indent line) ⊎ (is_blank line ≡ true))
  by true true p q h = (grind (arith, nat_tests), inl h)
  by true false p q h = (h, inl (grind (arith, nat_tests)))
  by false b p q h = (h, inr (blank_full line p))

common_cut : (common : Option ℕ) (lines : List (List ℕ)) (n : ℕ) → fold least_indent common lines ≡ Some n → Least common n × AllCut n lines
unfolding AllCut Least
common_cut common [] n e = (subst (λ (o : Option ℕ). Least o n) (sym e) (omega arith), tt)
common_cut common (line ∷ lines) n e =
    let (least, cut) = common_cut (least_indent common line) lines n e in
    let (before, here) = least_step common line n least in
    (before, (here, cut))

cut_all : (n : ℕ) (lines : List (List ℕ)) → AllCut n lines → AreTexts lines → AreTexts (map (drop n) lines)
unfolding AllCut AreTexts
cut_all n [] cut are = tt
cut_all n (line ∷ lines) cut are = (cut_text n line cut.0 are.0, cut_all n lines cut.1 are.1)

common_text : (lines : List (List ℕ)) → AreTexts lines → AreTexts (without_common_indent lines)
unfolding AreTexts
common_text [] are = tt
common_text (first ∷ lines) are = (are.0, by (common_indent lines) refl) where
  by : (o : Option ℕ) → common_indent lines ≡ o → AreTexts (without_indent o lines)
  by None e = are.1
  by (Some n) e = cut_all n lines (common_cut None lines n e).1 are.1

first_text : (lines : List (List ℕ)) → AreTexts lines → AreTexts (without_first_blanks lines)
unfolding AreTexts
first_text [] are = tt
first_text (line ∷ lines) are = by (is_blank line) (first_text lines are.1) where
  by : (b : Bool) → AreTexts (without_first_blanks lines) → AreTexts (cond b (without_first_blanks lines) (line ∷ lines))
  by true next = next
  by false next = are

join_text : (lines : List (List ℕ)) → AreTexts lines → IsUtf8 (join_lines lines)
unfolding AreTexts
join_text [] are = IsUtf8-nil
join_text (first ∷ lines) are = IsUtf8-append first _ are.0 (behind lines are.1) where
  behind : (lines : List (List ℕ)) → AreTexts lines → IsUtf8 (flat_map (λ line. 10 ∷ line) lines)
  behind [] are = IsUtf8-nil
  behind (line ∷ lines) are = IsUtf8-append (10 ∷ line) _ (ascii_then 10 line (omega arith) are.0) (behind lines are.1)

block_value_text : (raw : List ℕ) → IsUtf8 raw → IsUtf8 (block_string_value raw)
unfolding block_string_value
block_value_text raw u =
    let cut = first_text (without_common_indent (split_lines raw)) (common_text (split_lines raw) (lines_text (length raw) raw (omega arith) u)) in
    let kept = without_first_blanks (without_common_indent (split_lines raw)) in
    join_text (without_last_blanks kept) (texts_reverse (without_first_blanks (reverse kept)) (first_text (reverse kept) (texts_reverse kept cut)))

string_text : (t : List ℕ) (parts : List StringPart) (r : List ℕ) → IsString t parts r → IsUtf8 t → IsUtf8 (flat_map part_value parts)
string_text _ _ _ (empty rest n) u = IsUtf8-nil
string_text _ _ _ (characters t middle rest part parts is are) u =
    let inside = after_ascii 34 t (omega arith) u in
    let whole = characters_text [] t (part ∷ parts) (34 ∷ rest) (more t middle (34 ∷ rest) part parts is are) inside in
    (before_ascii (flat_map part_value (part ∷ parts)) rest 34 (omega arith) whole).0

raw_text : (t raw r : List ℕ) → IsBlockString t raw r → IsUtf8 t → IsUtf8 raw
raw_text _ _ _ (block t raw rest are) u =
    let inside = after_ascii 34 t (omega arith) (after_ascii 34 (34 ∷ t) (omega arith) (after_ascii 34 (34 ∷ 34 ∷ t) (omega arith) u)) in
    (before_ascii raw (34 ∷ 34 ∷ rest) 34 (omega arith) (blocks_text [] t raw (34 ∷ 34 ∷ 34 ∷ rest) are inside)).0

value_text : (text value : List ℕ) → StandsFor text value → IsUtf8 text → IsUtf8 value
value_text _ _ (string text parts is) u = string_text text parts [] is u
value_text _ _ (block_string text raw is) u = block_value_text raw (raw_text text raw [] is u)

-- the text of a string within a text
spelling_text : (before spelling rest bytes : List ℕ) → StandsFor spelling bytes → IsUtf8 (before ++ (spelling ++ rest)) → IsUtf8 spelling
spelling_text before spelling rest bytes is u =
    let (t, s, opens, closes) = quotes_around spelling bytes is in
    let from = (before_ascii before (t ++ rest) 34 (omega arith) (subst (λ (l : List ℕ). IsUtf8 (before ++ (l ++ rest))) opens u)).1 in
    let whole : 34 ∷ (t ++ rest) ≡ s ++ 34 ∷ rest = ap (λ l. l ++ rest) (sym opens ∙ closes) ∙ append_assoc s (34 ∷ []) rest in
    let front = (before_ascii s rest 34 (omega arith) (subst IsUtf8 whole from)).0 in
    subst IsUtf8 (sym closes) (IsUtf8-append s (34 ∷ []) front (ascii_then 34 [] (omega arith) IsUtf8-nil))

-- so what a string within a text stands for is its value
pub value_within : (before spelling rest bytes : List ℕ) → StandsFor spelling bytes → IsUtf8 (before ++ (spelling ++ rest)) → HasStringValue spelling bytes
value_within before spelling rest bytes is u = record { stands = is; utf8 = value_text spelling bytes is (spelling_text before spelling rest bytes is u) }

-- and each string token within a text has a value
pub token_has_value : (kind : TokenKind) (before text rest : List ℕ) → IsToken kind text rest → (kind ≡ StringValue) ⊎ (kind ≡ BlockString) →
    IsUtf8 (before ++ text) → (spelling value : List ℕ) × (text ≡ spelling ++ rest) × HasStringValue spelling value
token_has_value kind before text rest is which u =
    let (spelling, bytes, written, stands) = token_value kind text rest is which in
    (spelling, bytes, written, value_within before spelling rest bytes stands (subst (λ (l : List ℕ). IsUtf8 (before ++ l)) written u))
