-- The tokens that a reader has before it.
use Rattle.std.specs.Prelude.{◌≡◌, ℕ, ◌-◌, Bool, true, false, ◌&&◌, ◌||◌, nat_le, List, [], ◌∷◌, length, take, drop, IsTrue, Some, Contains}
use Rattle.std.specs.List.{list_all}
use Rattle.std.specs.Char.{is_ascii}
use Rattle.std.specs.Str.{bytes_eq}
use Rattle.graphql_nodes.specs.Names.{NameText, is_name}
use Rattle.graphql_nodes.specs.declared.spans.FileId.{FileId}
use Rattle.graphql_nodes.specs.declared.spans.SourceSpan.{SourceSpan}
use Rattle.graphql_numbers.specs.Numbers.{is_integer, IsFloat}
use Rattle.graphql_tokens.specs.declared.token.Token.{Token}
use Rattle.graphql_tokens.specs.declared.token.TokenKind.{TokenKind}
use Rattle.graphql_tokens.specs.declared.token.TokenKind.TheVariants.{Name, IntValue, FloatValue, StringValue, BlockString}
use Rattle.graphql_tokens.specs.contracts.token.TokenKindPartialEq.TheImpl as kinds
use Rattle.graphql_syntax.specs.Keywords.{keyword_text}
use Rattle.graphql_syntax.specs.declared.keywords.Keyword.{Keyword}

-- the two kinds are the same
unfoldable pub same_kind : TokenKind → TokenKind → Bool
same_kind a b = kinds.ghosts.eq a b

-- the text and its file, the tokens that are left, and where the last one that was read ended
pub record Input : Type 0 where
  pub file_id : FileId
  pub source : List ℕ
  pub tokens : List Token
  pub ended : ℕ

-- the text of a token
abbrev pub text_of : List ℕ → Token → List ℕ
text_of source t = take (t.end - t.start) (drop t.start source)

-- a test of a token in its text
abbrev pub TokenTest : Type 0
TokenTest = List ℕ → Token → Bool

abbrev pub is_kind : TokenKind → TokenTest
is_kind kind source t = same_kind t.kind kind

abbrev pub is_keyword : Keyword → TokenTest
is_keyword keyword source t = same_kind t.kind Name && bytes_eq (text_of source t) (keyword_text keyword)

-- a string or a block string
abbrev pub is_string : TokenTest
is_string source t = same_kind t.kind StringValue || same_kind t.kind BlockString

-- a token comes next, and passes
abbrev pub first_passes : TokenTest → List ℕ → List Token → Bool
first_passes test source [] = false
first_passes test source (t ∷ rest) = test source t

unfoldable pub next_passes : TokenTest → Input → Bool
next_passes test i = first_passes test i.source i.tokens

abbrev pub sees : TokenKind → Input → Bool
sees kind i = next_passes (is_kind kind) i

abbrev pub sees_keyword : Keyword → Input → Bool
sees_keyword keyword i = next_passes (is_keyword keyword) i

-- behind the next token
abbrev pub behind_first : Input → List Token → Input
behind_first i [] = i
behind_first i (t ∷ rest) = record { file_id = i.file_id; source = i.source; tokens = rest; ended = t.end }

unfoldable pub behind : Input → Input
behind i = behind_first i i.tokens

-- where the next token begins
abbrev pub first_start : ℕ → List Token → ℕ
first_start ended [] = ended
first_start ended (t ∷ rest) = t.start

unfoldable pub start_of : Input → ℕ
start_of i = first_start i.ended i.tokens

-- the text of the next token
abbrev pub first_text : List ℕ → List Token → List ℕ
first_text source [] = []
first_text source (t ∷ rest) = text_of source t

unfoldable pub next_text : Input → List ℕ
next_text i = first_text i.source i.tokens

-- the place from a byte up to where the last token ended
abbrev pub span_from : ℕ → Input → SourceSpan
span_from start j = record { file_id = j.file_id; start = start; end = j.ended }

-- the place from where i is up to where j is
abbrev pub between : Input → Input → SourceSpan
between i j = span_from (start_of i) j

-- a token that passes comes next, and j is behind it
pub record TakesOne (test : TokenTest) (i j : Input) : Type 0 where
  pub comes : IsTrue (next_passes test i)
  pub then_behind : j ≡ behind i

-- a token of this kind comes next, and j is behind it
abbrev pub Takes : TokenKind → Input → Input → Type 0
Takes kind i j = TakesOne (is_kind kind) i j

abbrev pub TakesKeyword : Keyword → Input → Input → Type 0
TakesKeyword keyword i j = TakesOne (is_keyword keyword) i j

-- Name. Specification: 2.1.9 Names
pub record IsName (i : Input) (name : NameText) (j : Input) : Type 0 where
  pub takes : Takes Name i j
  pub text : name.text ≡ next_text i
  pub location : name.location ≡ Some (between i j)

-- the text of a token is one of its kind
abbrev pub spells : TokenKind → List ℕ → Bool
spells Name text = is_name text
spells IntValue text = is_integer text
spells FloatValue text = list_all is_ascii text
spells _ text = true

-- the token is in the text, and its text is one of its kind
abbrev pub is_spelled : List ℕ → Token → Bool
is_spelled source t = (nat_le t.start t.end && nat_le t.end (length source)) && spells t.kind (text_of source t)

-- each of the tokens does
abbrev pub are_spelled : List ℕ → List Token → Bool
are_spelled source tokens = list_all (is_spelled source) tokens

-- no token is called a float whose text is none
abbrev pub AreFloats : List ℕ → List Token → Type 0
AreFloats source tokens =
    (t : Token) → Contains tokens t → IsTrue (same_kind t.kind FloatValue) → (IsFloat (text_of source t) → ⊥) → ⊥
