-- The tokens of a text. Specification: 2.1.6 Lexical Tokens, and Appendix B.2 Lexical Tokens.
use Rattle.std.specs.Prelude.{◌≡◌, ℕ, ◌-◌, ◌<◌, ◌≤◌, Bool, ◌||◌, ◌==◌, List, [], ◌∷◌, ◌++◌, length, IsTrue, IsFalse, Option, Some, None, if◌then◌else◌}
use Rattle.std.specs.Char.{is_ascii_digit}
use Rattle.graphql_nodes.specs.Names.{is_name, starts_name, continues_name}
use Rattle.graphql_numbers.specs.Numbers.{is_integer, IsFloat}
use Rattle.graphql_tokens.specs.Characters.{begins_with}
use Rattle.graphql_tokens.specs.Ignored.{IsIgnored}
use Rattle.graphql_tokens.specs.Strings.{IsString, IsBlockString}
use Rattle.graphql_tokens.specs.declared.strings.StringPart.{StringPart}
use Rattle.graphql_tokens.specs.declared.lexer.LexicalError.{LexicalError}
use Rattle.graphql_tokens.specs.declared.lexer.LexicalError.TheVariants.{OutOfMemory, TooManyTokens}
use Rattle.graphql_tokens.specs.declared.lexer.LexicalError.TheVariants as errors
use Rattle.graphql_tokens.specs.declared.lexer.Stop.{Stop}
use Rattle.graphql_tokens.specs.declared.lexer.Stop.TheVariants.{End, NoToken, TooMany}
use Rattle.graphql_tokens.specs.declared.token.Token.{Token}
use Rattle.graphql_tokens.specs.declared.token.TokenKind.{TokenKind}
use Rattle.graphql_tokens.specs.declared.token.TokenKind.TheVariants.{ExclamationMark, Dollar, Ampersand, LeftParenthesis, RightParenthesis, Spread, Colon, Equals, At, LeftBracket, RightBracket, LeftBrace, VerticalBar, RightBrace, Name, IntValue, FloatValue, StringValue, BlockString}

-- the punctuators of one character. Specification: 2.1.8 Punctuators
abbrev pub punctuator : ℕ → Option TokenKind
punctuator c =
    if c == 33 then Some ExclamationMark
    else (if c == 36 then Some Dollar
    else (if c == 38 then Some Ampersand
    else (if c == 40 then Some LeftParenthesis
    else (if c == 41 then Some RightParenthesis
    else (if c == 58 then Some Colon
    else (if c == 61 then Some Equals
    else (if c == 64 then Some At
    else (if c == 91 then Some LeftBracket
    else (if c == 93 then Some RightBracket
    else (if c == 123 then Some LeftBrace
    else (if c == 124 then Some VerticalBar
    else (if c == 125 then Some RightBrace else None))))))))))))

-- what may not follow a number: a digit, `.` or the start of a name. Specification: 2.9.1 Int Value
abbrev pub goes_on_number : ℕ → Bool
goes_on_number c = (is_ascii_digit c || c == 46) || starts_name c

-- the text begins with a token of this kind, and the rest is behind it
pub data IsToken : TokenKind → List ℕ → List ℕ → Type 0 where
  sign : (c : ℕ) (kind : TokenKind) (rest : List ℕ) → punctuator c ≡ Some kind → IsToken kind (c ∷ rest) rest
  spread : (rest : List ℕ) → IsToken Spread (46 ∷ 46 ∷ 46 ∷ rest) rest
  -- no character that would go on the name follows. Specification: 2.1.9 Names
  name : (text spelling rest : List ℕ) → text ≡ spelling ++ rest → IsTrue (is_name spelling) →
      IsFalse (begins_with continues_name rest) → IsToken Name text rest
  integer : (text spelling rest : List ℕ) → text ≡ spelling ++ rest → IsTrue (is_integer spelling) →
      IsFalse (begins_with goes_on_number rest) → IsToken IntValue text rest
  -- Specification: 2.9.2 Float Value
  float : (text spelling rest : List ℕ) → text ≡ spelling ++ rest → IsFloat spelling →
      IsFalse (begins_with goes_on_number rest) → IsToken FloatValue text rest
  string : (text rest : List ℕ) (parts : List StringPart) → IsString text parts rest → IsToken StringValue text rest
  block_string : (text rest raw : List ℕ) → IsBlockString text raw rest → IsToken BlockString text rest

-- the token that begins where a text of this length has one left, and ends where the rest begins
abbrev pub token_between : ℕ → TokenKind → List ℕ → List ℕ → Token
token_between total kind text rest = record { kind = kind; start = total - length text; end = total - length rest }

-- in a text of so many bytes in all: these are the tokens of what is left of it, up to the rest
pub data Lexes (total : ℕ) : List ℕ → List Token → List ℕ → Type 0 where
  nothing : (rest : List ℕ) → Lexes total rest [] rest
  ignored : (text middle rest : List ℕ) (tokens : List Token) →
      IsIgnored text middle → Lexes total middle tokens rest → Lexes total text tokens rest
  token : (kind : TokenKind) (text middle rest : List ℕ) (tokens : List Token) →
      IsToken kind text middle → Lexes total middle tokens rest →
      Lexes total text (token_between total kind text middle ∷ tokens) rest

-- these are the tokens of the text
abbrev pub AreTokens : List ℕ → List Token → Type 0
AreTokens text tokens = Lexes (length text) text tokens []

-- neither a token nor anything ignored begins here, and the text goes on
pub record IsStuck (rest : List ℕ) : Type 0 where
  pub more : 0 < length rest
  pub nothing_ignored : (behind : List ℕ) → IsIgnored rest behind → ⊥
  pub no_token : (kind : TokenKind) (behind : List ℕ) → IsToken kind rest behind → ⊥

-- behind these tokens of the text, and what is ignored, is this byte, and no token begins there
pub record BreaksOff (text : List ℕ) (tokens : List Token) (at : ℕ) : Type 0 where
  pub rest : List ℕ
  pub lexes : Lexes (length text) text tokens rest
  pub within : length rest ≤ length text
  pub place : at ≡ length text - length rest
  pub stuck : IsStuck rest

-- behind these tokens of the text one more begins at this byte
pub record GoesOn (text : List ℕ) (tokens : List Token) (at : ℕ) : Type 0 where
  pub rest : List ℕ
  pub behind : List ℕ
  pub kind : TokenKind
  pub lexes : Lexes (length text) text tokens rest
  pub within : length rest ≤ length text
  pub place : at ≡ length text - length rest
  pub one_more : IsToken kind rest behind

-- where a scan with room for so many tokens stops, and the tokens before
abbrev pub Scans : ℕ → List ℕ → List Token → Stop → Type 0
Scans bound text tokens End = AreTokens text tokens × (length tokens ≤ bound)
Scans bound text tokens (NoToken at) = BreaksOff text tokens at × (length tokens ≤ bound)
Scans bound text tokens (TooMany at) = GoesOn text tokens at × (length tokens ≡ bound)

-- what a refusal says: no token begins at the byte, or one more than may be; of refused memory nothing
abbrev pub IsRefusal : ℕ → List ℕ → LexicalError → Type 0
IsRefusal bound text OutOfMemory = Unit {0}
IsRefusal bound text (errors.NoToken at) = (tokens : List Token) × BreaksOff text tokens at × (length tokens ≤ bound)
IsRefusal bound text (TooManyTokens at) = (tokens : List Token) × GoesOn text tokens at × (length tokens ≡ bound)
