-- String values and block strings as they are written: `IsString text parts rest` where the text begins
-- with a string, and the rest is behind it. Specification: 2.9.4 String Value.
use Rattle.std.specs.Prelude.{◌≡◌, ℕ, ◌+◌, ◌-◌, ◌*◌, Bool, not, ◌&&◌, ◌||◌, ◌==◌, nat_lt, List, [], ◌∷◌, ◌++◌, IsTrue, IsFalse, Option, Some, None, if◌then◌else◌, option_and_then}
use Rattle.std.specs.Int.{is_in_range}
use Rattle.std.specs.Char.{is_ascii_digit}
use Rattle.graphql_tokens.specs.Characters.{is_line_byte, is_source_byte, begins_with_byte}
use Rattle.graphql_tokens.specs.declared.strings.StringPart.{StringPart}
use Rattle.graphql_tokens.specs.declared.strings.StringPart.TheVariants.{Byte, Escaped}

-- the value of a hexadecimal digit
abbrev pub hex_digit : ℕ → Option ℕ
hex_digit c =
    if is_ascii_digit c then Some (c - 48)
    else (if is_in_range 97 102 c then Some (c - 87)
    else (if is_in_range 65 70 c then Some (c - 55) else None))

-- the value of hexadecimal digits that are behind a value
abbrev pub hex_value_behind : ℕ → List ℕ → Option ℕ
hex_value_behind value [] = Some value
hex_value_behind value (c ∷ digits) = option_and_then (λ d. hex_value_behind (16 * value + d) digits) (hex_digit c)

-- the value of one hexadecimal digit or more
abbrev pub hex_value : List ℕ → Option ℕ
hex_value [] = None
hex_value (c ∷ digits) = option_and_then (λ d. hex_value_behind d digits) (hex_digit c)

-- the two halves of a surrogate pair
abbrev pub is_leading_surrogate : ℕ → Bool
is_leading_surrogate code = is_in_range 55296 56319 code

abbrev pub is_trailing_surrogate : ℕ → Bool
is_trailing_surrogate code = is_in_range 56320 57343 code

-- a Unicode scalar value: at most U+10FFFF, and no surrogate
abbrev pub is_scalar_value : ℕ → Bool
is_scalar_value code = nat_lt code 55296 || is_in_range 57344 1114111 code

-- what a surrogate pair stands for
abbrev pub pair_value : ℕ → ℕ → ℕ
pair_value leading trailing = 65536 + 1024 * (leading - 55296) + (trailing - 56320)

-- EscapedUnicode, behind `\u`, and the code that it stands for. Beyond October 2021, as later editions:
-- digits in braces, and surrogate pairs; a lone surrogate stands for nothing
pub data IsEscapedUnicode : List ℕ → ℕ → List ℕ → Type 0 where
  four_digits : (a b c d code : ℕ) (rest : List ℕ) →
      hex_value (a ∷ b ∷ c ∷ d ∷ []) ≡ Some code → IsTrue (is_scalar_value code) →
      IsEscapedUnicode (a ∷ b ∷ c ∷ d ∷ rest) code rest
  surrogate_pair : (a b c d e f g h leading trailing : ℕ) (rest : List ℕ) →
      hex_value (a ∷ b ∷ c ∷ d ∷ []) ≡ Some leading → IsTrue (is_leading_surrogate leading) →
      hex_value (e ∷ f ∷ g ∷ h ∷ []) ≡ Some trailing → IsTrue (is_trailing_surrogate trailing) →
      IsEscapedUnicode (a ∷ b ∷ c ∷ d ∷ 92 ∷ 117 ∷ e ∷ f ∷ g ∷ h ∷ rest) (pair_value leading trailing) rest
  braces : (text digits : List ℕ) (code : ℕ) (rest : List ℕ) → text ≡ digits ++ 125 ∷ rest →
      hex_value digits ≡ Some code → IsTrue (is_scalar_value code) →
      IsEscapedUnicode (123 ∷ text) code rest

-- EscapedCharacter, and the code that it stands for
abbrev pub escaped_character : ℕ → Option ℕ
escaped_character c =
    if c == 34 then Some 34
    else (if c == 92 then Some 92
    else (if c == 47 then Some 47
    else (if c == 98 then Some 8
    else (if c == 102 then Some 12
    else (if c == 110 then Some 10
    else (if c == 114 then Some 13
    else (if c == 116 then Some 9 else None)))))))

-- a byte of a character that stands for itself in a string: no `"`, no `\`, no line terminator
abbrev pub is_string_byte : ℕ → Bool
is_string_byte c = (is_source_byte c && not (is_line_byte c)) && not (c == 34 || c == 92)

-- a byte of a character that stands for itself in a block string, whatever is behind it: no `"`, no `\`
abbrev pub is_plain_byte : ℕ → Bool
is_plain_byte c = is_source_byte c && not (c == 34 || c == 92)

-- StringCharacter
pub data IsStringCharacter : List ℕ → StringPart → List ℕ → Type 0 where
  plain : (c : ℕ) (rest : List ℕ) → IsTrue (is_string_byte c) → IsStringCharacter (c ∷ rest) (Byte c) rest
  unicode : (text : List ℕ) (code : ℕ) (rest : List ℕ) → IsEscapedUnicode text code rest →
      IsStringCharacter (92 ∷ 117 ∷ text) (Escaped code) rest
  escaped : (c code : ℕ) (rest : List ℕ) → escaped_character c ≡ Some code →
      IsStringCharacter (92 ∷ c ∷ rest) (Escaped code) rest

-- as many string characters as there are parts
pub data AreStringCharacters : List ℕ → List StringPart → List ℕ → Type 0 where
  none : (rest : List ℕ) → AreStringCharacters rest [] rest
  more : (text middle rest : List ℕ) (part : StringPart) (parts : List StringPart) →
      IsStringCharacter text part middle → AreStringCharacters middle parts rest →
      AreStringCharacters text (part ∷ parts) rest

-- a string between single quotes
pub data IsString : List ℕ → List StringPart → List ℕ → Type 0 where
  empty : (rest : List ℕ) → IsFalse (begins_with_byte 34 rest) → IsString (34 ∷ 34 ∷ rest) [] rest
  characters : (text middle rest : List ℕ) (part : StringPart) (parts : List StringPart) →
      IsStringCharacter text part middle → AreStringCharacters middle parts (34 ∷ rest) →
      IsString (34 ∷ text) (part ∷ parts) rest

-- BlockStringCharacter, and the bytes of its raw value: `\"""` stands for three quotes, and any other
-- source character for itself, where neither `"""` nor `\"""` begins
pub data IsBlockCharacter : List ℕ → List ℕ → List ℕ → Type 0 where
  quotes : (rest : List ℕ) → IsBlockCharacter (92 ∷ 34 ∷ 34 ∷ 34 ∷ rest) (34 ∷ 34 ∷ 34 ∷ []) rest
  plain : (c : ℕ) (rest : List ℕ) → IsTrue (is_source_byte c) →
      ((behind : List ℕ) → c ∷ rest ≡ 34 ∷ 34 ∷ 34 ∷ behind → ⊥) →
      ((behind : List ℕ) → c ∷ rest ≡ 92 ∷ 34 ∷ 34 ∷ 34 ∷ behind → ⊥) →
      IsBlockCharacter (c ∷ rest) (c ∷ []) rest

-- as many block string characters as there are, and the raw value of them all
pub data AreBlockCharacters : List ℕ → List ℕ → List ℕ → Type 0 where
  none : (rest : List ℕ) → AreBlockCharacters rest [] rest
  more : (text middle rest raw raws : List ℕ) →
      IsBlockCharacter text raw middle → AreBlockCharacters middle raws rest →
      AreBlockCharacters text (raw ++ raws) rest

-- a block string, and its raw value
pub data IsBlockString : List ℕ → List ℕ → List ℕ → Type 0 where
  block : (text raw rest : List ℕ) → AreBlockCharacters text raw (34 ∷ 34 ∷ 34 ∷ rest) →
      IsBlockString (34 ∷ 34 ∷ 34 ∷ text) raw rest
