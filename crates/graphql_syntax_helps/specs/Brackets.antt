-- Brackets that are open. Specification: 2.1.8 Punctuators.
use Rattle.std.specs.Prelude.{◌≡◌, ℕ, Bool, true, false, List, [], ◌∷◌, filter, length, nat_lt, IsTrue, IsFalse, Option, None, Some, if◌then◌else◌}
use Rattle.graphql_nodes.specs.declared.spans.FileId.{FileId}
use Rattle.graphql_nodes.specs.declared.spans.SourceSpan.{SourceSpan}
use Rattle.graphql_parser.specs.declared.bounds.Bounds.{Bounds}
use Rattle.graphql_parser.specs.declared.errors.SyntaxError.{SyntaxError}
use Rattle.graphql_parser.specs.declared.errors.SyntaxError.TheVariants as errors
use Rattle.graphql_tokens.specs.Lexical.{Scans}
use Rattle.graphql_tokens.specs.declared.lexer.Stop.{Stop}
use Rattle.graphql_tokens.specs.declared.token.Token.{Token}
use Rattle.graphql_tokens.specs.declared.token.TokenKind.{TokenKind}
use Rattle.graphql_tokens.specs.declared.token.TokenKind.TheVariants.{LeftParenthesis, RightParenthesis, LeftBracket, RightBracket, LeftBrace, RightBrace}

abbrev pub opens : TokenKind → Bool
opens LeftParenthesis = true
opens LeftBracket = true
opens LeftBrace = true
opens other = false

abbrev pub closes : TokenKind → Bool
closes RightParenthesis = true
closes RightBracket = true
closes RightBrace = true
closes other = false

abbrev pub rest_of : List Token → List Token
rest_of [] = []
rest_of (t ∷ rest) = rest

-- the brackets that are open after this token, the innermost first
abbrev pub open_with : List Token → Token → List Token
open_with unclosed t = if opens t.kind then t ∷ unclosed else (if closes t.kind then rest_of unclosed else unclosed)

-- the brackets that are open after these tokens
abbrev pub open_after : List Token → List Token → List Token
open_after unclosed [] = unclosed
open_after unclosed (t ∷ rest) = open_after (open_with unclosed t) rest

abbrev pub first_of : List Token → Option Token
first_of [] = None
first_of (t ∷ rest) = Some t

-- the innermost bracket that is open before this byte, of the tokens of the text up to where a scan stops
abbrev pub IsOpenBefore : Bounds → List ℕ → ℕ → Option Token → Type 0
IsOpenBefore bounds text at found = (tokens : List Token) × (stop : Stop) × Scans bounds.tokens text tokens stop ×
    (found ≡ first_of (open_after [] (filter (λ t. nat_lt t.start at) tokens)))

-- this bracket is closed by that one
abbrev pub is_closed_by : TokenKind → TokenKind → Bool
is_closed_by LeftParenthesis RightParenthesis = true
is_closed_by LeftBracket RightBracket = true
is_closed_by LeftBrace RightBrace = true
is_closed_by one other = false

-- the open bracket, unless this token closes it
abbrev pub unless_closed : Token → Option Token → Option Token
unless_closed t None = None
unless_closed t (Some bracket) = if is_closed_by bracket.kind t.kind then None else Some bracket

-- before this token, which closes a bracket, the innermost one that is open, unless it is of the same kind
abbrev pub IsOpenAt : Bounds → List ℕ → Token → Option Token → Type 0
IsOpenAt bounds text token found = (bracket : Option Token) × IsOpenBefore bounds text token.start bracket × (found ≡ unless_closed token bracket)

-- where the text ends too early, the innermost bracket that is open; where a bracket of another kind is closed than that, it too
abbrev pub IsInnermostOpen : Bounds → List ℕ → SyntaxError → Option Token → Type 0
IsInnermostOpen bounds text (errors.Unexpected None expected) found = IsOpenBefore bounds text (length text) found
IsInnermostOpen bounds text (errors.Unexpected (Some token) expected) found =
    (IsTrue (closes token.kind) → IsOpenAt bounds text token found) × (IsFalse (closes token.kind) → found ≡ None)
IsInnermostOpen bounds text other found = found ≡ None

-- the place of a token in a file, if there is one
abbrev pub place_in : FileId → Option Token → Option SourceSpan
place_in file None = None
place_in file (Some token) = Some (record { file_id = file; start = token.start; end = token.end })

-- the place of the innermost bracket that is open
abbrev pub IsPlaceOfOpen : Bounds → FileId → List ℕ → SyntaxError → Option SourceSpan → Type 0
IsPlaceOfOpen bounds file text error place = (bracket : Option Token) × IsInnermostOpen bounds text error bracket × (place ≡ place_in file bracket)
