-- Lines and columns of a text. Specification: 2.1.3 Line Terminators, and 7.1.2 Errors, where lines and
-- columns are numbers from 1.
use Rattle.std.specs.Prelude.{◌≡◌, ℕ, zero, suc, ◌+◌, ◌≤◌, Bool, not, ◌&&◌, ◌||◌, ◌==◌, List, length, slice_index, drop, if◌then◌else◌}
use Rattle.std.specs.Int.{is_in_range}
use Rattle.graphql_tokens.specs.Ignored.{IsLineTerminator}
use Rattle.graphql_places.specs.declared.Place.{Place}

-- with byte k a line ends: it is a line feed, or a carriage return with no line feed behind it
abbrev pub ends_line : List ℕ → ℕ → Bool
ends_line text k = slice_index text k == 10 || (slice_index text k == 13 && not (slice_index text (suc k) == 10))

-- with byte k a character begins: it is none of the bytes from 128 to 191, which go on a character of UTF-8
abbrev pub begins_character : List ℕ → ℕ → Bool
begins_character text k = not (is_in_range 128 191 (slice_index text k))

-- the line of a byte: the first is 1, and behind each line end comes one more
abbrev pub line : List ℕ → ℕ → ℕ
line text zero = 1
line text (suc k) = if ends_line text k then line text k + 1 else line text k

-- the column of a byte: 1 where a line begins, and behind each character in the line one more
abbrev pub column : List ℕ → ℕ → ℕ
column text zero = 1
column text (suc k) =
    if ends_line text k then 1
    else (if begins_character text k then column text k + 1 else column text k)

-- the place of a byte
pub record IsPlaceOf (text : List ℕ) (at : ℕ) (place : Place) : Type 0 where
  pub line_is : place.line ≡ line text at
  pub column_is : place.column ≡ column text at

-- a line terminator of the text ends with byte k
abbrev pub TerminatorEnds : List ℕ → ℕ → Type 0
TerminatorEnds text k = (start : ℕ) × IsLineTerminator (drop start text) (drop (suc k) text) × (k + 1 ≤ length text)
