-- What the readers of values answer. That they answer as string tokens stand for values is proved.
use Rattle.std.specs.Prelude.{ℕ, zero, suc, ◌&&◌, ◌==◌, List, [], ◌∷◌, ◌++◌, length, take, drop, position, Option, Some, None, if◌then◌else◌}
use Rattle.std.specs.Str.{is_utf8}
use Rattle.graphql_tokens.specs.Characters.{is_line_byte, is_source_byte}
use Rattle.graphql_tokens.specs.Scans.{◌>>=◌, strip, string_character_at, quotes_at, escaped_quotes_at}
use Rattle.graphql_strings.specs.BlockStrings.{block_string_value}
use Rattle.graphql_strings.specs.Values.{part_value}

-- the value of the string character here, and the rest
unfoldable pub string_part_at : List ℕ → Option (List ℕ × List ℕ)
string_part_at text = string_character_at text >>= λ part. Some (part_value part.0, part.1)

-- the source character's byte here, and the rest
abbrev pub source_part_at : List ℕ → Option (List ℕ × List ℕ)
source_part_at [] = None
source_part_at (c ∷ rest) = if is_source_byte c then Some (c ∷ [], rest) else None

-- the raw value of the block string character here, and the rest
unfoldable pub block_part_at : List ℕ → Option (List ℕ × List ℕ)
block_part_at text = elim (escaped_quotes_at text) [
  | Some rest ↦ Some (34 ∷ 34 ∷ 34 ∷ [], rest)
  | None ↦ elim (quotes_at text) [ Some rest ↦ None | None ↦ source_part_at text ]
]

-- what a part gives and the parts behind it do
abbrev pub with_part : List ℕ → List ℕ × List ℕ → List ℕ × List ℕ
with_part value behind = (value ++ behind.0, behind.1)

-- the values of the parts that come, one after another, and the rest, in so many turns
abbrev pub parts_in_turns : (List ℕ → Option (List ℕ × List ℕ)) → ℕ → List ℕ → List ℕ × List ℕ
parts_in_turns scan zero text = ([], text)
parts_in_turns scan (suc turns) text = elim (scan text) [
  | None ↦ ([], text)
  | Some part ↦ with_part part.0 (parts_in_turns scan turns part.1)
]

-- the same, in as many turns as it takes
unfoldable pub all_parts : (List ℕ → Option (List ℕ × List ℕ)) → List ℕ → List ℕ × List ℕ
all_parts scan text = parts_in_turns scan (length text) text

-- the bytes, where nothing is left
abbrev pub ended : List ℕ → List ℕ → Option (List ℕ)
ended bytes [] = Some bytes
ended bytes (c ∷ rest) = None

-- behind the first quote of a string
unfoldable pub characters_bytes_at : List ℕ → Option (List ℕ)
characters_bytes_at text = let found = all_parts string_part_at text in strip 34 found.1 >>= ended found.0

-- behind the first three quotes of a block string
unfoldable pub block_bytes_at : List ℕ → Option (List ℕ)
block_bytes_at text = let found = all_parts block_part_at text in quotes_at found.1 >>= ended (block_string_value found.0)

-- behind the first quote
unfoldable pub quoted_bytes_at : List ℕ → Option (List ℕ)
quoted_bytes_at text = elim (strip 34 text) [
  | None ↦ characters_bytes_at text
  | Some second ↦ elim (strip 34 second) [ None ↦ ended [] second | Some third ↦ block_bytes_at third ]
]

-- what the string or block string that the whole text is stands for
unfoldable pub string_bytes_at : List ℕ → Option (List ℕ)
string_bytes_at text = strip 34 text >>= quoted_bytes_at

-- the bytes, where they are UTF-8
abbrev pub in_utf8 : List ℕ → Option (List ℕ)
in_utf8 bytes = if is_utf8 bytes then Some bytes else None

-- the value of the string or block string that the whole text is
unfoldable pub string_value_at : List ℕ → Option (List ℕ)
string_value_at text = string_bytes_at text >>= in_utf8

-- behind the line terminator here
abbrev pub after_terminator : List ℕ → List ℕ
after_terminator [] = []
after_terminator (c ∷ []) = []
after_terminator (c ∷ d ∷ rest) = if c == 13 && d == 10 then rest else d ∷ rest

-- the line up to the first line terminator, and the rest behind that
unfoldable pub line_at : List ℕ → Option (List ℕ × List ℕ)
line_at text = position is_line_byte text >>= λ end. Some (take end text, after_terminator (drop end text))
