-- A text has a value exactly where the reader finds it.
use Rattle.std.specs.Prelude.{IsUtf8, if◌then◌else◌}
use Rattle.std.specs.List.{list_all}
use Rattle.std.specs.Str.{is_utf8}
use Rattle.std.proofs.lemmas.Str.{IsUtf8-from_is_utf8, is_utf8-from_IsUtf8}
use Rattle.std.proofs.Common.{◌↔◌, ◌≡◌, ℕ, Bool, true, false, not, List, [], ◌∷◌, length, flat_map, Option, Some, None, refl, sym, subst, ◌∙◌, ap, arith}
use Rattle.std.proofs.lemmas.List.{append-nil}
use Rattle.graphql_tokens.specs.Characters.{is_line_byte, IsRun}
use Rattle.graphql_tokens.specs.Strings.{is_plain_byte, AreStringCharacters, none, more, IsString, empty, characters, IsBlockString, block}
use Rattle.graphql_tokens.specs.Scans.{strip, quotes_at}
use Rattle.graphql_tokens.specs.declared.strings.StringPart.{StringPart}
use Rattle.graphql_tokens.proofs.ScanLemmas.{guarded, and_then_is, strip_is, strip_it, strip_none}
use Rattle.graphql_tokens.proofs.QuotedScans.{quotes_are, quotes_read, unquoted}
use Rattle.graphql_strings.specs.BlockStrings.{is_blank, split_lines, block_string_value}
use Rattle.graphql_strings.specs.Values.{part_value, StandsFor, string, block_string, HasStringValue}
use Rattle.graphql_strings.specs.Scans.{string_part_at, block_part_at, all_parts, ended, characters_bytes_at, block_bytes_at, quoted_bytes_at, string_bytes_at, in_utf8, string_value_at}
use Rattle.graphql_strings.proofs.LineLemmas.{lines_none, no_line_at}
use Rattle.graphql_strings.proofs.PartLemmas.{parts_there, parts_read, string_part_stops, blocks_there, blocks_read, block_part_stops, all_plain}

-- nothing is left behind a value
ended_is : (bytes rest value : List ℕ) → ended bytes rest ≡ Some value → (rest ≡ []) × (bytes ≡ value)
ended_is bytes [] value e = (refl, cc)
ended_is bytes (c ∷ cs) value e = absurd (let h : ⊥ = cc in h)

-- strings, behind their first quote
opened : (t : List ℕ) (parts : List StringPart) (q r : List ℕ) → AreStringCharacters t parts q → q ≡ 34 ∷ r → strip 34 t ≡ None → IsString (34 ∷ t) parts r
opened _ _ _ r (none rest) e n = absurd (let h = rw e at n in let k = strip_it 34 r in let b : ⊥ = cc in b)
opened _ _ _ r (more t middle rest part parts is are) e n = characters t middle r part parts is (rw e at are)

characters_are : (t value : List ℕ) → strip 34 t ≡ None → characters_bytes_at t ≡ Some value → StandsFor (34 ∷ t) value
unfolding characters_bytes_at
characters_are t value n e =
    let (parts, are, values) = parts_there (length t) t (omega arith) in
    let (r, er, e1) = and_then_is (ended (all_parts string_part_at t).0) (strip 34 (all_parts string_part_at t).1) value e in
    let (nothing, same) = ended_is (all_parts string_part_at t).0 r value e1 in
    let closed : (all_parts string_part_at t).1 ≡ 34 ∷ [] = strip_is 34 (all_parts string_part_at t).1 r er ∙ ap (λ l. 34 ∷ l) nothing in
    subst (StandsFor (34 ∷ t)) (values ∙ same) (string (34 ∷ t) parts (opened t parts (all_parts string_part_at t).1 [] are closed n))

block_is : (t value : List ℕ) → block_bytes_at t ≡ Some value → StandsFor (34 ∷ 34 ∷ 34 ∷ t) value
unfolding block_bytes_at
block_is t value e =
    let are = blocks_there (length t) t (omega arith) in
    let (r, er, e1) = and_then_is (ended (block_string_value (all_parts block_part_at t).0)) (quotes_at (all_parts block_part_at t).1) value e in
    let (nothing, same) = ended_is (block_string_value (all_parts block_part_at t).0) r value e1 in
    let closed : (all_parts block_part_at t).1 ≡ 34 ∷ 34 ∷ 34 ∷ [] =
    quotes_are (all_parts block_part_at t).1 r er ∙ ap (λ l. 34 ∷ 34 ∷ 34 ∷ l) nothing in
    subst (StandsFor (34 ∷ 34 ∷ 34 ∷ t)) same
    (block_string (34 ∷ 34 ∷ 34 ∷ t) (all_parts block_part_at t).0 (block t (all_parts block_part_at t).0 [] (rw closed at are)))

quoted_is : (t value : List ℕ) → quoted_bytes_at t ≡ Some value → StandsFor (34 ∷ t) value
unfolding quoted_bytes_at
quoted_is t value e = by (strip 34 t) refl e where
  third : (second : List ℕ) → t ≡ 34 ∷ second → (o : Option (List ℕ)) → strip 34 second ≡ o →
      elim o [ None ↦ ended [] second | Some third ↦ block_bytes_at third ] ≡ Some value → StandsFor (34 ∷ t) value
  third second w None s e =
      let (nothing, same) = ended_is [] second value e in
      subst (StandsFor (34 ∷ t)) same (rw (w, nothing) (string (34 ∷ 34 ∷ []) [] (empty [] refl)))
  third second w (Some rest) s e = rw (w, strip_is 34 second rest s) (block_is rest value e)

  by : (o : Option (List ℕ)) → strip 34 t ≡ o →
      elim o [ None ↦ characters_bytes_at t | Some second ↦ elim (strip 34 second) [ None ↦ ended [] second | Some third ↦ block_bytes_at third ] ] ≡ Some value →
      StandsFor (34 ∷ t) value
  by None s e = characters_are t value s e
  by (Some second) s e = third second (strip_is 34 t second s) (strip 34 second) refl e

-- what the reader finds is the value
pub bytes_are : (text value : List ℕ) → string_bytes_at text ≡ Some value → StandsFor text value
unfolding string_bytes_at
bytes_are text value e =
    let (inside, s, e1) = and_then_is quoted_bytes_at (strip 34 text) value e in
    rw (strip_is 34 text inside s) (quoted_is inside value e1)

string_found : (t r : List ℕ) (parts : List StringPart) → IsString t parts r → r ≡ [] → string_bytes_at t ≡ Some (flat_map part_value parts)
unfolding string_bytes_at quoted_bytes_at characters_bytes_at
string_found _ _ _ (empty rest n) e = rw (e, strip_it 34 (34 ∷ []), strip_it 34 [], strip_none 34 [] refl, string_bytes_at, quoted_bytes_at) refl
string_found _ _ _ (characters t middle rest part parts is are) e =
    let all : all_parts string_part_at t ≡ (flat_map part_value (part ∷ parts), 34 ∷ rest) =
    parts_read t (part ∷ parts) (34 ∷ rest) (more t middle (34 ∷ rest) part parts is are) (string_part_stops rest) in
    rw (strip_it 34 t, unquoted t part middle is, all, strip_it 34 rest, e, string_bytes_at, quoted_bytes_at) refl

block_found : (t raw r : List ℕ) → IsBlockString t raw r → r ≡ [] → string_bytes_at t ≡ Some (block_string_value raw)
unfolding string_bytes_at quoted_bytes_at block_bytes_at
block_found _ _ _ (block t raw rest are) e =
    let all : all_parts block_part_at t ≡ (raw, 34 ∷ 34 ∷ 34 ∷ rest) = blocks_read t raw (34 ∷ 34 ∷ 34 ∷ rest) are (block_part_stops rest) in
    rw (strip_it 34 (34 ∷ 34 ∷ t), strip_it 34 (34 ∷ t), strip_it 34 t, all, quotes_read rest, e, string_bytes_at, quoted_bytes_at) refl

-- and the value is found
pub bytes_found : (text value : List ℕ) → StandsFor text value → string_bytes_at text ≡ Some value
bytes_found _ _ (string text parts is) = string_found text [] parts is refl
bytes_found _ _ (block_string text raw is) = block_found text raw [] is refl

-- the test of UTF-8
pub utf8_kept : (bytes : List ℕ) → IsUtf8 bytes → in_utf8 bytes ≡ Some bytes
utf8_kept bytes u = rw (is_utf8-from_IsUtf8 bytes u) refl

pub utf8_refused : (bytes : List ℕ) → (IsUtf8 bytes → ⊥) → in_utf8 bytes ≡ None
utf8_refused bytes never = by (is_utf8 bytes) refl where
  by : (b : Bool) → is_utf8 bytes ≡ b → in_utf8 bytes ≡ None
  by true e = absurd (never (IsUtf8-from_is_utf8 bytes e))
  by false e = rw e refl

-- the value is what the text stands for, where that is UTF-8
pub string_value_is : (text value : List ℕ) → string_value_at text ≡ Some value → HasStringValue text value
unfolding string_value_at
string_value_is text value e =
    let (bytes, found, e1) = and_then_is in_utf8 (string_bytes_at text) value e in
    let (is, same) = guarded (is_utf8 bytes) bytes value e1 in
    subst (HasStringValue text) same (record { stands = bytes_are text bytes found; utf8 = IsUtf8-from_is_utf8 bytes is })

pub string_value_found : (text value : List ℕ) → HasStringValue text value → string_value_at text ≡ Some value
unfolding string_value_at
string_value_found text value has = rw (bytes_found text value has.stands, is_utf8-from_IsUtf8 value has.utf8) refl

-- both at once
pub value_or_none : (text value : List ℕ) (found : Option (List ℕ)) → found ≡ string_value_at text → (found ≡ Some value) ↔ HasStringValue text value
value_or_none text value found e = (λ s. string_value_is text value (sym e ∙ s), λ has. e ∙ string_value_found text value has)

-- so a text stands for one value at most
pub one_value : (text value other : List ℕ) → StandsFor text value → StandsFor text other → value ≡ other
one_value text value other a b =
    let e = bytes_found text value a in
    let f = bytes_found text other b in cc

-- a text with no line terminator is one line
one_line : (raw : List ℕ) → list_all (λ c. not (is_line_byte c)) raw ≡ true → split_lines raw ≡ raw ∷ []
one_line raw e = lines_none raw (no_line_at raw e)

pub blank_line_is : (raw : List ℕ) → list_all (λ c. not (is_line_byte c)) raw ≡ true → is_blank raw ≡ true → block_string_value raw ≡ []
unfolding block_string_value
blank_line_is raw e q = rw (one_line raw e, q, block_string_value) refl

pub line_is : (raw : List ℕ) → list_all (λ c. not (is_line_byte c)) raw ≡ true → is_blank raw ≡ false → block_string_value raw ≡ raw
unfolding block_string_value
line_is raw e q = rw (one_line raw e, q, q, block_string_value) (append-nil raw)

-- a block string of one line is that line, its white space included, unless it is blank
pub one_line_value : (text raw : List ℕ) → IsBlockString text raw [] → list_all (λ c. not (is_line_byte c)) raw ≡ true →
    StandsFor text (if is_blank raw then [] else raw)
one_line_value text raw is e = subst (StandsFor text) (by (is_blank raw) refl) (block_string text raw is) where
  by : (b : Bool) → is_blank raw ≡ b → block_string_value raw ≡ (if is_blank raw then [] else raw)
  by true q = rw q (blank_line_is raw e q)
  by false q = rw q (line_is raw e q)

-- what is read of a block string of plain bytes alone
pub plain_block_read : (text run rest behind value : List ℕ) → IsRun is_plain_byte text run rest → quotes_at rest ≡ Some behind →
    value ≡ block_string_value run → block_bytes_at text ≡ ended value behind
unfolding block_bytes_at
plain_block_read text run rest behind value is q e = rw (all_plain text run rest behind is q, q, e, block_bytes_at) refl
