-- How deep brackets and braces are in one another.
use Rattle.std.specs.Prelude.{◌≡◌, ℕ, ◌+◌, Bool, true, false, List, [], ◌∷◌, ◌++◌, length, IsTrue, if◌then◌else◌}
use Rattle.graphql_tokens.specs.declared.token.Token.{Token}
use Rattle.graphql_tokens.specs.declared.token.TokenKind.{TokenKind}
use Rattle.graphql_tokens.specs.declared.token.TokenKind.TheVariants.{LeftBracket, RightBracket, LeftBrace, RightBrace}

abbrev pub is_opening : TokenKind → Bool
is_opening LeftBracket = true
is_opening LeftBrace = true
is_opening _ = false

abbrev pub is_closing : TokenKind → Bool
is_closing RightBracket = true
is_closing RightBrace = true
is_closing _ = false

-- how many of the tokens are of such a kind
abbrev pub how_many : (TokenKind → Bool) → List Token → ℕ
how_many test [] = 0
how_many test (t ∷ rest) = (if test t.kind then 1 else 0) + how_many test rest

-- so many brackets and braces are open, and with the token from which on so many are left one more opens
pub record OpensTooDeep (depth : ℕ) (tokens : List Token) (left : ℕ) : Type 0 where
  pub before : List Token
  pub opening : Token
  pub after : List Token
  pub all : tokens ≡ before ++ opening ∷ after
  pub place : left ≡ length (opening ∷ after)
  pub opens : IsTrue (is_opening opening.kind)
  pub as_many : how_many is_opening before ≡ depth + how_many is_closing before
