-- What string tokens stand for, as bytes of UTF-8. Specification: 2.9.4 String Value, Semantics.
use Rattle.std.specs.Prelude.{ℕ, List, [], ◌∷◌, flat_map, encode_utf8, IsUtf8}
use Rattle.graphql_tokens.specs.Strings.{IsString, IsBlockString}
use Rattle.graphql_tokens.specs.declared.strings.StringPart.{StringPart}
use Rattle.graphql_tokens.specs.declared.strings.StringPart.TheVariants.{Byte, Escaped}
use Rattle.graphql_strings.specs.BlockStrings.{block_string_value}

-- what a part of a string stands for: a byte for itself, an escape for its character
abbrev pub part_value : StringPart → List ℕ
part_value (Byte c) = c ∷ []
part_value (Escaped code) = encode_utf8 code

-- the whole text is a string or a block string, quotes included, and stands for these bytes
pub data StandsFor : List ℕ → List ℕ → Type 0 where
  string : (text : List ℕ) (parts : List StringPart) → IsString text parts [] →
      StandsFor text (flat_map part_value parts)
  block_string : (text raw : List ℕ) → IsBlockString text raw [] →
      StandsFor text (block_string_value raw)

-- the value of the string or block string that the whole text is: what it stands for, which is a text itself
pub record HasStringValue (text value : List ℕ) : Type 0 where
  pub stands : StandsFor text value
  pub utf8 : IsUtf8 value
