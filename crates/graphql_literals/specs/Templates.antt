-- Where template strings and their interpolations end.
use Rattle.std.specs.Prelude.{◌≡◌, ◌<◌, ◌≤◌, ℕ, List, length, slice_index}
use Rattle.graphql_literals.specs.declared.templates.Opened.{Opened}
use Rattle.graphql_literals.specs.declared.templates.Opened.TheVariants.{Braces, Template}

-- the byte that closes it
abbrev pub closing_byte : Opened → ℕ
closing_byte Template = 96
closing_byte Braces = 125

-- the byte at the end, which is not before the start, closes it
pub record ClosesAt (program : List ℕ) (from : ℕ) (opened : Opened) (end : ℕ) : Type 0 where
  pub ordered : from ≤ end
  pub within : end < length program
  pub byte : slice_index program end ≡ closing_byte opened
