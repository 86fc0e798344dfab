-- What the scanners answer: the rest of the text behind what they look for, if it is there. That they
-- answer by the grammar is proved.
use Rattle.std.specs.Prelude.{◌≡◌, ℕ, zero, suc, ◌+◌, ◌*◌, Bool, ◌||◌, ◌==◌, nat_lt, List, [], ◌∷◌, length, take, Option, Some, None, if◌then◌else◌, option_and_then}
use Rattle.std.specs.Char.{is_ascii_digit}
use Rattle.std.specs.Int.{w64, trailing_zeros}
use Rattle.std.specs.List.{prefix_len}
use Rattle.graphql_nodes.specs.Names.{starts_name, continues_name}
use Rattle.graphql_numbers.specs.Numbers.{begins_exponent}
use Rattle.graphql_tokens.specs.Characters.{is_source_byte, begins_with}
use Rattle.graphql_tokens.specs.Ignored.{is_comment_byte}
use Rattle.graphql_tokens.specs.Strings.{hex_digit, is_leading_surrogate, is_trailing_surrogate, is_scalar_value, pair_value, escaped_character, is_string_byte, is_plain_byte}
use Rattle.graphql_tokens.specs.Lexical.{punctuator, goes_on_number}
use Rattle.graphql_tokens.specs.declared.characters.Class.{Class}
use Rattle.graphql_tokens.specs.declared.characters.Class.TheVariants.{Blank, Comment, Digit, NamePart, StringText, BlockText}
use Rattle.graphql_tokens.specs.declared.strings.StringPart.{StringPart}
use Rattle.graphql_tokens.specs.declared.strings.StringPart.TheVariants.{Byte, Escaped}
use Rattle.graphql_tokens.specs.declared.token.TokenKind.{TokenKind}
use Rattle.graphql_tokens.specs.declared.token.TokenKind.TheVariants.{Spread, Name, IntValue, FloatValue, StringValue, BlockString}

infixl 10 ◌>>=◌
abbrev pub ◌>>=◌ : {A B : Type 0} → Option A → (A → Option B) → Option B
o >>= f = option_and_then f o

-- what a call answered, seen by view, is what a scan answers
abbrev pub Gives : {X Y : Type 0} → (X → Y) → Option X → Option Y → Type 0
Gives view None scan = scan ≡ None
Gives view (Some x) scan = scan ≡ Some (view x)

-- the rest behind this byte
unfoldable pub strip : ℕ → List ℕ → Option (List ℕ)
strip b [] = None
strip b (c ∷ rest) = if c == b then Some rest else None

-- the rest behind the bytes that pass
abbrev pub after_run : (ℕ → Bool) → List ℕ → List ℕ
after_run test [] = []
after_run test (c ∷ rest) = if test c then after_run test rest else c ∷ rest

-- tab, line feed, space and comma
abbrev pub is_blank : ℕ → Bool
is_blank c = (c == 9 || c == 10) || (c == 32 || c == 44)

-- the bytes of a class
abbrev pub belongs : Class → ℕ → Bool
belongs Blank c = is_blank c
belongs Comment c = is_comment_byte c
belongs Digit c = is_ascii_digit c
belongs NamePart c = continues_name c
belongs StringText c = is_string_byte c
belongs BlockText c = is_plain_byte c

-- how many of the first sixteen bytes are of the class, from the first on
abbrev pub run_in_load : Class → List ℕ → ℕ
run_in_load class text = prefix_len (belongs class) (take 16 text)

-- the place of the lowest bit of the mask that is set, or sixteen
abbrev pub first_set : ℕ → ℕ
first_set mask = if mask == 0 then 16 else trailing_zeros w64 mask

-- the rest, where a scan leads from rest to rest no further, in so many turns
abbrev pub after_turns : (List ℕ → Option (List ℕ)) → ℕ → List ℕ → List ℕ
after_turns scan zero text = text
after_turns scan (suc turns) text = elim (scan text) [ None ↦ text | Some rest ↦ after_turns scan turns rest ]

-- the same, in as many turns as it takes
unfoldable pub after_all : (List ℕ → Option (List ℕ)) → List ℕ → List ℕ
after_all scan text = after_turns scan (length text) text

-- behind a line terminator that begins with a carriage return
abbrev pub after_return : List ℕ → List ℕ
after_return rest = elim (strip 10 rest) [ None ↦ rest | Some behind ↦ behind ]

unfoldable pub ignored_at : List ℕ → Option (List ℕ)
ignored_at [] = None
ignored_at (c ∷ rest) =
    if is_blank c then Some rest
    else (if c == 13 then Some (after_return rest)
    else (if c == 35 then Some (after_run is_comment_byte rest)
    else (if c == 239 then strip 187 rest >>= strip 191 else None)))

-- hexadecimal digits
unfoldable pub hex_digit_at : List ℕ → Option (ℕ × List ℕ)
hex_digit_at [] = None
hex_digit_at (c ∷ rest) = hex_digit c >>= λ d. Some (d, rest)

unfoldable pub four_digits_at : List ℕ → Option (ℕ × List ℕ)
four_digits_at text = do
  a ← hex_digit_at text
  b ← hex_digit_at a.1
  c ← hex_digit_at b.1
  d ← hex_digit_at c.1
  Some (16 * (16 * (16 * a.0 + b.0) + c.0) + d.0, d.1)

-- all digits that come, unless they stand for more than U+10FFFF
abbrev pub digits_behind : ℕ → List ℕ → Option (ℕ × List ℕ)
digits_behind value [] = Some (value, [])
digits_behind value (c ∷ rest) = elim (hex_digit c) [
  | None ↦ Some (value, c ∷ rest)
  | Some d ↦ if nat_lt 1114111 (16 * value + d) then None else digits_behind (16 * value + d) rest
]

-- a scalar value alone
unfoldable pub scalar_with : ℕ → List ℕ → Option (ℕ × List ℕ)
scalar_with code rest = if is_scalar_value code then Some (code, rest) else None

unfoldable pub braced_at : List ℕ → Option (ℕ × List ℕ)
braced_at text = do
  first ← hex_digit_at text
  digits ← digits_behind first.0 first.1
  rest ← strip 125 digits.1
  scalar_with digits.0 rest

unfoldable pub trailing_at : ℕ → List ℕ → Option (ℕ × List ℕ)
trailing_at leading text = do
  slash ← strip 92 text
  mark ← strip 117 slash
  trailing ← four_digits_at mark
  if is_trailing_surrogate trailing.0 then scalar_with (pair_value leading trailing.0) trailing.1 else None

unfoldable pub fixed_at : List ℕ → Option (ℕ × List ℕ)
fixed_at text = do
  code ← four_digits_at text
  if is_leading_surrogate code.0 then trailing_at code.0 code.1 else scalar_with code.0 code.1

unfoldable pub unicode_at : List ℕ → Option (ℕ × List ℕ)
unicode_at text = elim (strip 123 text) [ None ↦ fixed_at text | Some digits ↦ braced_at digits ]

-- behind `\`
unfoldable pub escape_at : List ℕ → Option (ℕ × List ℕ)
escape_at [] = None
escape_at (c ∷ rest) = if c == 117 then unicode_at rest else (escaped_character c >>= λ code. Some (code, rest))

unfoldable pub string_character_at : List ℕ → Option (StringPart × List ℕ)
string_character_at [] = None
string_character_at (c ∷ rest) =
    if c == 92 then (escape_at rest >>= λ e. Some (Escaped e.0, e.1))
    else (if is_string_byte c then Some (Byte c, rest) else None)

-- the rest alone
abbrev pub past_string_character : List ℕ → Option (List ℕ)
past_string_character text = string_character_at text >>= λ part. Some part.1

-- three quotes
unfoldable pub quotes_at : List ℕ → Option (List ℕ)
quotes_at text = do
  first ← strip 34 text
  second ← strip 34 first
  strip 34 second

unfoldable pub escaped_quotes_at : List ℕ → Option (List ℕ)
escaped_quotes_at text = strip 92 text >>= quotes_at

abbrev pub source_byte_at : List ℕ → Option (List ℕ)
source_byte_at [] = None
source_byte_at (c ∷ rest) = if is_source_byte c then Some rest else None

unfoldable pub block_character_at : List ℕ → Option (List ℕ)
block_character_at text = elim (escaped_quotes_at text) [
  | Some rest ↦ Some rest
  | None ↦ elim (quotes_at text) [ Some rest ↦ None | None ↦ source_byte_at text ]
]

-- a token that ends where the rest begins
abbrev pub with_kind : TokenKind → Option (List ℕ) → Option (TokenKind × List ℕ)
with_kind kind scan = scan >>= λ rest. Some (kind, rest)

-- behind the first quote
unfoldable pub quoted_at : List ℕ → Option (TokenKind × List ℕ)
quoted_at text = elim (strip 34 text) [
  | None ↦ with_kind StringValue (strip 34 (after_all past_string_character text))
  | Some second ↦ elim (strip 34 second) [
    | None ↦ Some (StringValue, second)
    | Some third ↦ with_kind BlockString (quotes_at (after_all block_character_at third))
  ]
]

-- one digit or more
unfoldable pub digits_at : List ℕ → Option (List ℕ)
digits_at [] = None
digits_at (c ∷ rest) = if is_ascii_digit c then Some (after_run is_ascii_digit rest) else None

unfoldable pub whole_at : List ℕ → Option (List ℕ)
whole_at [] = None
whole_at (c ∷ rest) = if c == 48 then Some rest else digits_at (c ∷ rest)

unfoldable pub integer_at : List ℕ → Option (List ℕ)
integer_at text = elim (strip 45 text) [ None ↦ whole_at text | Some rest ↦ whole_at rest ]

unfoldable pub fraction_at : List ℕ → Option (List ℕ)
fraction_at text = strip 46 text >>= digits_at

abbrev pub after_sign : List ℕ → List ℕ
after_sign [] = []
after_sign (c ∷ rest) = if c == 43 || c == 45 then rest else c ∷ rest

unfoldable pub exponent_at : List ℕ → Option (List ℕ)
exponent_at [] = None
exponent_at (c ∷ rest) = if begins_exponent c then digits_at (after_sign rest) else None

-- behind the integer of a number
unfoldable pub number_behind : List ℕ → TokenKind × List ℕ
number_behind whole = elim (fraction_at whole) [
  | Some fraction ↦ elim (exponent_at fraction) [ Some rest ↦ (FloatValue, rest) | None ↦ (FloatValue, fraction) ]
  | None ↦ elim (exponent_at whole) [ Some rest ↦ (FloatValue, rest) | None ↦ (IntValue, whole) ]
]

abbrev pub ended : TokenKind × List ℕ → Option (TokenKind × List ℕ)
ended number = if begins_with goes_on_number number.1 then None else Some number

unfoldable pub number_at : List ℕ → Option (TokenKind × List ℕ)
number_at text = integer_at text >>= λ whole. ended (number_behind whole)

unfoldable pub sign_at : ℕ → List ℕ → Option (TokenKind × List ℕ)
sign_at c rest = punctuator c >>= λ kind. Some (kind, rest)

unfoldable pub token_at : List ℕ → Option (TokenKind × List ℕ)
token_at [] = None
token_at (c ∷ rest) =
    if starts_name c then Some (Name, after_run continues_name rest)
    else (if c == 45 || is_ascii_digit c then number_at (c ∷ rest)
    else (if c == 34 then quoted_at rest
    else (if c == 46 then with_kind Spread (strip 46 rest >>= strip 46) else sign_at c rest)))
