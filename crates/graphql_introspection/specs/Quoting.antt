-- Texts that are added as strings. Specification: 2.9.4 String Value.
use Rattle.std.specs.Prelude.{◌≡◌, ℕ, List, ◌++◌, flat_map}
use Rattle.graphql_tokens.specs.Strings.{AreStringCharacters}
use Rattle.graphql_tokens.specs.declared.strings.StringPart.{StringPart}
use Rattle.graphql_strings.specs.Values.{HasStringValue, part_value}

-- these are string characters, whatever follows, and stand for the value
pub record Spells (written value : List ℕ) : Type 0 where
  pub parts : List StringPart
  pub are : (rest : List ℕ) → AreStringCharacters (written ++ rest) parts rest
  pub stand : flat_map part_value parts ≡ value

-- string characters that stand for the value are added
abbrev pub AppendsCharacters : List ℕ → List ℕ → List ℕ → Type 0
AppendsCharacters old value new = (written : List ℕ) × (new ≡ old ++ written) × Spells written value

-- a string that stands for the value is added
abbrev pub AppendsString : List ℕ → List ℕ → List ℕ → Type 0
AppendsString old value new = (written : List ℕ) × (new ≡ old ++ written) × HasStringValue written value
