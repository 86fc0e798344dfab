-- What is between tokens: `IsIgnored text rest` where the text begins with one ignored token, and the rest is behind it. Specification: 2.1.7 Ignored
-- Tokens, and Appendix B.2 Lexical Tokens.
use Rattle.std.specs.Prelude.{ℕ, Bool, not, ◌&&◌, List, ◌∷◌, IsFalse}
use Rattle.graphql_tokens.specs.Characters.{is_line_byte, is_source_byte, begins_with_byte, IsRun}

-- LineTerminator. Specification: 2.1.3 Line Terminators
pub data IsLineTerminator : List ℕ → List ℕ → Type 0 where
  line_feed : (rest : List ℕ) → IsLineTerminator (10 ∷ rest) rest
  carriage_return : (rest : List ℕ) → IsFalse (begins_with_byte 10 rest) → IsLineTerminator (13 ∷ rest) rest
  carriage_return_line_feed : (rest : List ℕ) → IsLineTerminator (13 ∷ 10 ∷ rest) rest

-- CommentChar: a source character, but no line terminator. Specification: 2.1.4 Comments
abbrev pub is_comment_byte : ℕ → Bool
is_comment_byte c = is_source_byte c && not (is_line_byte c)

-- Ignored
pub data IsIgnored : List ℕ → List ℕ → Type 0 where
  -- UnicodeBOM. Specification: 2.1.1 Source Text, Unicode
  byte_order_mark : (rest : List ℕ) → IsIgnored (239 ∷ 187 ∷ 191 ∷ rest) rest
  -- WhiteSpace: tab and space. Specification: 2.1.2 White Space
  tab : (rest : List ℕ) → IsIgnored (9 ∷ rest) rest
  space : (rest : List ℕ) → IsIgnored (32 ∷ rest) rest
  line_terminator : (text rest : List ℕ) → IsLineTerminator text rest → IsIgnored text rest
  -- Comment: `#`, and as many comment characters as there are
  comment : (text run rest : List ℕ) → IsRun is_comment_byte text run rest → IsIgnored (35 ∷ text) rest
  -- Comma. Specification: 2.1.5 Insignificant Commas
  comma : (rest : List ℕ) → IsIgnored (44 ∷ rest) rest
