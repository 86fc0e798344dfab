-- GraphQL literals in programs. A program is its bytes.
use Rattle.std.specs.Prelude.{◌≡◌, ◌+◌, ◌-◌, ◌<◌, ◌≤◌, ◌⊎◌, ◌&&◌, ℕ, Bool, not, nat_le, nat_lt, List, length, slice_index, All, IsTrue, if◌then◌else◌}
use Rattle.std.specs.List.{list_any}
use Rattle.graphql_blanks.specs.Blanks.{blank_byte}
use Rattle.graphql_blanks.specs.declared.Part.{Part}
use Rattle.graphql_literals.specs.declared.contents.Contents.{Contents}
use Rattle.graphql_literals.specs.declared.contents.Contents.TheVariants as contents
use Rattle.graphql_literals.specs.declared.contents.Interpolation.{Interpolation}
use Rattle.graphql_literals.specs.declared.literals.Found.{Found}
use Rattle.graphql_literals.specs.declared.literals.Literal.{Literal}
use Rattle.graphql_literals.specs.declared.literals.Plucked.{Plucked}
use Rattle.graphql_literals.specs.declared.literals.Plucked.TheVariants as plucked
use Rattle.graphql_literals.specs.declared.literals.SkipReason.{SkipReason}
use Rattle.graphql_literals.specs.declared.literals.SkipReason.TheVariants as reason

-- an interpolation begins at the byte: `${`
pub record BeginsInterpolation (program : List ℕ) (at : ℕ) : Type 0 where
  pub dollar : slice_index program at ≡ 36
  pub brace : slice_index program (at + 1) ≡ 123

-- the part is an interpolation, from its `${` to its `}`
pub record IsInterpolation (program : List ℕ) (part : Part) : Type 0 where
  pub begins : BeginsInterpolation program part.start
  pub ends : slice_index program (part.end - 1) ≡ 125
  pub ordered : part.start + 2 < part.end

-- the part is a backslash before a backtick
pub record IsEscape (program : List ℕ) (part : Part) : Type 0 where
  pub backslash : slice_index program part.start ≡ 92
  pub backtick : slice_index program part.end ≡ 96
  pub one : part.end ≡ part.start + 1

-- a hole of the literal in that part of the program
pub record IsHole (program : List ℕ) (start end : ℕ) (hole : Part) : Type 0 where
  pub after_start : start ≤ hole.start
  pub before_end : hole.end ≤ end
  pub kind : IsInterpolation program hole ⊎ IsEscape program hole

-- the literal is between two backticks of the program, and so are its holes
pub record IsLiteral (program : List ℕ) (literal : Literal) : Type 0 where
  pub ordered : literal.start ≤ literal.end
  pub within : literal.end < length program
  pub not_first : 1 ≤ literal.start
  pub opening : slice_index program (literal.start - 1) ≡ 96
  pub closing : slice_index program literal.end ≡ 96
  pub holes : All (IsHole program literal.start literal.end) literal.holes.items

-- the part is in the program, and has a byte
pub record IsPartOf (program : List ℕ) (part : Part) : Type 0 where
  pub ordered : part.start < part.end
  pub within : part.end ≤ length program

-- the part begins as the reason says
abbrev pub BeginsAs : List ℕ → SkipReason → ℕ → Type 0
BeginsAs program reason.Interpolation at = BeginsInterpolation program at
BeginsAs program reason.Unclosed at = slice_index program at ≡ 96

-- the literal that was plucked, or skipped, is one of the program
abbrev pub IsPlucked : List ℕ → Plucked → Type 0
IsPlucked program (plucked.Literal literal) = IsLiteral program literal
IsPlucked program (plucked.Skipped skipped) = IsPartOf program skipped.part × BeginsAs program skipped.reason skipped.part.start

-- a literal begins at the start, which is after that byte: a backtick is before it
pub record StartsAfter (program : List ℕ) (from start : ℕ) : Type 0 where
  pub further : from < start
  pub within : start ≤ length program
  pub opening : slice_index program (start - 1) ≡ 96

-- a literal that begins at the start was found, and the program goes on after it
pub record IsFound (program : List ℕ) (start : ℕ) (found : Found) : Type 0 where
  pub plucked : IsPlucked program found.plucked
  pub further : start ≤ found.end
  pub within : found.end ≤ length program

-- the interpolation at a byte of a literal that ends there, as far as it is in the literal
pub record IsFoundAt (program : List ℕ) (at end : ℕ) (found : Interpolation) : Type 0 where
  pub start_is : found.part.start ≡ at
  pub ordered : at < found.part.end
  pub within : found.part.end ≤ end
  pub closed : IsTrue found.is_closed → IsInterpolation program found.part

-- the contents of the literal in that part of the program
abbrev pub AreContents : List ℕ → Part → Contents → Type 0
AreContents program literal (contents.Known holes) = All (IsHole program literal.start literal.end) holes.items
AreContents program literal (contents.Unknown part) = (part.start < part.end) × (part.end ≤ literal.end) × BeginsInterpolation program part.start

-- byte k is in the part
abbrev pub is_within : ℕ → Part → Bool
is_within k part = nat_le part.start k && nat_lt k part.end

-- byte k of a text in which the part is blank
abbrev pub blank_in : Part → ℕ → ℕ → ℕ
blank_in part k byte = if is_within k part then blank_byte byte else byte

-- byte k of a text in which all these parts are blank
abbrev pub blank_in_any : List Part → ℕ → ℕ → ℕ
blank_in_any parts k byte = if list_any (is_within k) parts then blank_byte byte else byte

-- byte k of the program is the literal's own: it is not before the literal, and in no hole
abbrev pub is_own : Literal → ℕ → Bool
is_own literal k = nat_le literal.start k && not (list_any (is_within k) literal.holes.items)

-- the part has a byte, and its first and last bytes are ASCII
pub record HasAsciiEnds (text : List ℕ) (part : Part) : Type 0 where
  pub ordered : part.start < part.end
  pub within : part.end ≤ length text
  pub first : slice_index text part.start < 128
  pub last : slice_index text (part.end - 1) < 128

-- the byte before the literal is ASCII, and so are the ends of its holes
pub record HasAsciiEdges (text : List ℕ) (literal : Literal) : Type 0 where
  pub positive : 1 ≤ literal.start
  pub within : literal.start ≤ length text
  pub before : slice_index text (literal.start - 1) < 128
  pub holes : All (HasAsciiEnds text) literal.holes.items

-- the text, in which all bytes of these parts are blank
pub record IsBlanked (text : List ℕ) (parts : List Part) (blanked : List ℕ) : Type 0 where
  pub long : length blanked ≡ length text
  pub each : (k : ℕ) → k < length text → slice_index blanked k ≡ blank_in_any parts k (slice_index text k)

-- the text is the program up to the end of the literal, in which each byte is blank that is not the literal's own
pub record IsTextOf (program : List ℕ) (literal : Literal) (text : List ℕ) : Type 0 where
  pub long : length text ≡ literal.end
  pub each : (k : ℕ) → k < literal.end → slice_index text k ≡ (if is_own literal k then slice_index program k else blank_byte (slice_index program k))
