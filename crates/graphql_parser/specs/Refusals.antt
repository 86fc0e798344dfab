-- What an error says. Specification: 2.2 Document, and Appendix B Grammar Summary.
use Rattle.std.specs.Prelude.{◌≡◌, ℕ, ◌-◌, ◌<◌, ◌≤◌, nat_lt, List, [], ◌∷◌, ◌++◌, length, take, drop, Option, None, Some, if◌then◌else◌}
use Rattle.graphql_nodes.specs.declared.spans.FileId.{FileId}
use Rattle.graphql_tokens.specs.Lexical.{AreTokens, BreaksOff, GoesOn, Lexes}
use Rattle.graphql_tokens.specs.declared.lexer.Stop.{Stop}
use Rattle.graphql_tokens.specs.declared.lexer.Stop.TheVariants.{End, NoToken, TooMany}
use Rattle.graphql_tokens.specs.declared.token.Token.{Token}
use Rattle.graphql_trees.specs.declared.documents.Document.{Document}
use Rattle.graphql_syntax.specs.Depths.{OpensTooDeep}
use Rattle.graphql_syntax.specs.declared.refusals.Refusal.{Refusal}
use Rattle.graphql_syntax.specs.declared.refusals.Refusal.TheVariants as refusal
use Rattle.graphql_syntax.specs.Inputs.{Input}
use Rattle.graphql_parser.specs.declared.bounds.Bounds.{Bounds}
use Rattle.graphql_parser.specs.declared.errors.SyntaxError.{SyntaxError}
use Rattle.graphql_parser.specs.declared.errors.SyntaxError.TheVariants as errors
use Rattle.graphql_parser.specs.Documents.{IsDocument}
use Rattle.graphql_parser.specs.Parses.{whole_input}

-- the byte at which an error is
abbrev pub error_at : List ℕ → SyntaxError → ℕ
error_at text errors.OutOfMemory = 0
error_at text (errors.NoToken at) = at
error_at text (errors.TooManyTokens at) = at
error_at text (errors.Unexpected None expected) = length text
error_at text (errors.Unexpected (Some token) expected) = token.start
error_at text (errors.TooDeep token) = token.start

-- the token that an error names, if any
abbrev pub error_token : SyntaxError → Option Token
error_token errors.OutOfMemory = None
error_token (errors.NoToken at) = None
error_token (errors.TooManyTokens at) = None
error_token (errors.Unexpected token expected) = token
error_token (errors.TooDeep token) = Some token

-- these tokens are no document, however deep it may be
abbrev pub IsNoDocument : FileId → List ℕ → List Token → Type 0
IsNoDocument file_id text tokens =
    (depth : ℕ) (tree : Document) (end : Input) → IsDocument depth (whole_input file_id text tokens) tree end → end.tokens ≡ [] → ⊥

-- some document begins with these tokens, in a text that begins with the bytes before this place
pub record BeginsDocument (file_id : FileId) (text : List ℕ) (at : ℕ) (tokens : List Token) : Type 0 where
  pub more : List ℕ
  pub others : List Token
  pub depth : ℕ
  pub tree : Document
  pub end : Input
  pub are_tokens : AreTokens (take at text ++ more) (tokens ++ others)
  pub is_document : IsDocument depth (whole_input file_id (take at text ++ more) (tokens ++ others)) tree end
  pub whole : end.tokens ≡ []

-- the tokens before an error at this place: some document begins with them, and no more brackets and braces open in them than may be open
pub record AreBefore (bounds : Bounds) (file_id : FileId) (text : List ℕ) (at : ℕ) (tokens : List Token) : Type 0 where
  pub begins : BeginsDocument file_id text at tokens
  pub shallow : (left : ℕ) → OpensTooDeep bounds.depth tokens left → ⊥

-- the text begins with tokens up to this one, and with it, with which no document begins, whatever follows the bytes and the tokens up to its end
pub record IsUnexpected (bounds : Bounds) (file_id : FileId) (text : List ℕ) (token : Token) : Type 0 where
  pub before : List Token
  pub rest : List ℕ
  pub lexes : Lexes (length text) text (before ++ token ∷ []) rest
  pub few : length before < bounds.tokens
  pub are_before : AreBefore bounds file_id text token.start before
  pub none : (other : List ℕ) → take token.end other ≡ take token.end text → (others : List Token) → IsNoDocument file_id other (before ++ token ∷ others)

-- the text begins with tokens up to this one, with which one more bracket or brace opens than may be open
pub record IsTooDeep (bounds : Bounds) (file_id : FileId) (text : List ℕ) (token : Token) : Type 0 where
  pub before : List Token
  pub rest : List ℕ
  pub lexes : Lexes (length text) text (before ++ token ∷ []) rest
  pub few : length before < bounds.tokens
  pub are_before : AreBefore bounds file_id text token.start before
  pub opens : OpensTooDeep bounds.depth (before ++ token ∷ []) 1

-- of refused memory nothing is said
abbrev pub IsRefusal : Bounds → FileId → List ℕ → SyntaxError → Type 0
IsRefusal bounds file_id text errors.OutOfMemory = Unit {0}
IsRefusal bounds file_id text (errors.NoToken at) =
    (tokens : List Token) × BreaksOff text tokens at × (length tokens ≤ bounds.tokens) × AreBefore bounds file_id text at tokens
IsRefusal bounds file_id text (errors.TooManyTokens at) =
    (tokens : List Token) × GoesOn text tokens at × (length tokens ≡ bounds.tokens) × AreBefore bounds file_id text at tokens
IsRefusal bounds file_id text (errors.Unexpected None expected) =
    (tokens : List Token) × AreTokens text tokens × (length tokens ≤ bounds.tokens) × IsNoDocument file_id text tokens × AreBefore bounds file_id text (length text) tokens
IsRefusal bounds file_id text (errors.Unexpected (Some token) expected) = IsUnexpected bounds file_id text token
IsRefusal bounds file_id text (errors.TooDeep token) = IsTooDeep bounds file_id text token

-- the token from which on so many are left
abbrev pub first_token : List Token → Option Token
first_token [] = None
first_token (t ∷ rest) = Some t

unfoldable pub refused_token : ℕ → List Token → Option Token
refused_token left tokens = if nat_lt (length tokens) left then None else first_token (drop (length tokens - left) tokens)

-- the error of a scan that did not come to the end
abbrev pub stop_error : Stop → Option SyntaxError
stop_error End = None
stop_error (NoToken at) = Some (errors.NoToken at)
stop_error (TooMany at) = Some (errors.TooManyTokens at)

-- the refusal of tokens, as an error of the text that begins with them
abbrev pub refusal_error : Refusal → List Token → Stop → SyntaxError
refusal_error refusal.OutOfMemory tokens stop = errors.OutOfMemory
refusal_error (refusal.Unexpected left expected) tokens stop = elim (refused_token left tokens) [
  | None ↦ elim (stop_error stop) [ None ↦ errors.Unexpected None expected | Some error ↦ error ]
  | Some token ↦ errors.Unexpected (Some token) expected
]
refusal_error (refusal.TooDeep left) tokens stop = elim (refused_token left tokens) [ None ↦ errors.OutOfMemory | Some token ↦ errors.TooDeep token ]
