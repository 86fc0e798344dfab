-- What helps with texts that are no documents. Specification: 2.1 Source Text, 2.9.1 Int Value, 2.9.4 String Value.
use Rattle.std.specs.Prelude.{◌≡◌, ◌⊎◌, ℕ, Bool, true, false, ◌||◌, ◌==◌, List, [], ◌∷◌, ◌++◌, drop, take, IsTrue, IsFalse, Option, Some, if◌then◌else◌}
use Rattle.std.specs.Char.{is_ascii_digit}
use Rattle.graphql_parser.specs.declared.errors.SyntaxError.{SyntaxError}
use Rattle.graphql_parser.specs.declared.errors.SyntaxError.TheVariants as errors
use Rattle.graphql_syntax.specs.declared.refusals.Expected.{Expected}
use Rattle.graphql_syntax.specs.declared.refusals.Expected.TheVariants as expecting
use Rattle.graphql_tokens.specs.declared.token.Token.{Token}
use Rattle.graphql_tokens.specs.declared.token.TokenKind.TheVariants as kinds
use Rattle.graphql_syntax_helps.specs.declared.helps.SyntaxHelp.{SyntaxHelp}
use Rattle.graphql_syntax_helps.specs.declared.helps.SyntaxHelp.TheVariants as help

-- line feed and carriage return
abbrev pub ends_line : ℕ → Bool
ends_line c = c == 10 || c == 13

-- what may follow a backslash: " \ / b f n r t u. Specification: 2.9.4 String Value, EscapedCharacter and EscapedUnicode
abbrev pub is_escape : ℕ → Bool
is_escape c = (((c == 34 || c == 92) || (c == 47 || c == 98)) || ((c == 102 || c == 110) || (c == 114 || c == 116))) || c == 117

-- no quote ends the string before its line ends: these are its bytes, after a backslash or not
abbrev pub is_open : Bool → List ℕ → Bool
is_open escaped [] = true
is_open escaped (c ∷ rest) =
    if ends_line c then true else (if escaped then is_open false rest else (if c == 34 then false else is_open (c == 92) rest))

-- the string has a backslash and this byte
abbrev pub HasEscape : List ℕ → ℕ → Type 0
HasEscape inside c = (before : List ℕ) × (behind : List ℕ) × (inside ≡ before ++ 92 ∷ c ∷ behind)

-- why these bytes after a quote are no string
abbrev pub HelpsInString : List ℕ → SyntaxHelp → Type 0
HelpsInString inside help.UnclosedString = IsTrue (is_open false inside)
HelpsInString inside help.UnknownEscape = (c : ℕ) × HasEscape inside c × IsFalse (is_escape c)
HelpsInString inside help.UnicodeEscape = HasEscape inside 117
HelpsInString inside other = ⊥

-- why these bytes, after a sign, are no number
abbrev pub HelpsInNumber : List ℕ → SyntaxHelp → Type 0
HelpsInNumber digits help.LeadingZero = (d : ℕ) × (rest : List ℕ) × (digits ≡ 48 ∷ d ∷ rest) × IsTrue (is_ascii_digit d)
HelpsInNumber digits help.UnfinishedNumber = (d : ℕ) × (rest : List ℕ) × (digits ≡ d ∷ rest) × IsTrue (is_ascii_digit d)
HelpsInNumber digits other = ⊥

-- the text begins with this byte
abbrev pub BeginsWith : ℕ → List ℕ → Type 0
BeginsWith c text = (rest : List ℕ) × (text ≡ c ∷ rest)

-- why no token begins with these bytes, or what to write for them
pub data HelpsAt : List ℕ → SyntaxHelp → Type 0 where
  in_string : (inside : List ℕ) (h : SyntaxHelp) → HelpsInString inside h → HelpsAt (34 ∷ inside) h
  in_block_string : (rest : List ℕ) → HelpsAt (34 ∷ 34 ∷ 34 ∷ rest) help.BlockString
  in_number : (digits : List ℕ) (h : SyntaxHelp) → HelpsInNumber digits h → HelpsAt digits h
  in_negative_number : (digits : List ℕ) (h : SyntaxHelp) → HelpsInNumber digits h → HelpsAt (45 ∷ digits) h
  apostrophe : (rest : List ℕ) → HelpsAt (39 ∷ rest) help.DoubleQuotes
  semicolon : (rest : List ℕ) → HelpsAt (59 ∷ rest) help.NoSemicolon
  slash : (rest : List ℕ) → HelpsAt (47 ∷ rest) help.NumberSign

-- the text ends with a comma, or with a comma and a space
abbrev pub IsBehindComma : List ℕ → Type 0
IsBehindComma before = (first : List ℕ) × ((before ≡ first ++ 44 ∷ []) ⊎ (before ≡ first ++ 44 ∷ 32 ∷ []))

-- what to write for this token: a name without quotes, a colon for an equals sign, or an ampersand for a comma between interfaces
abbrev pub HelpsWithToken : List ℕ → Token → Expected → SyntaxHelp → Type 0
HelpsWithToken text token expected help.NoQuotes = token.kind ≡ kinds.StringValue
HelpsWithToken text token expected help.Colon = (token.kind ≡ kinds.Equals) × (expected ≡ expecting.Token kinds.Colon)
HelpsWithToken text token expected help.Ampersand = (token.kind ≡ kinds.Name) × (expected ≡ expecting.Definition) × IsBehindComma (take token.start text)
HelpsWithToken text token expected other = ⊥

-- what helps with an error of a text
abbrev pub HelpsWithSyntax : List ℕ → SyntaxError → SyntaxHelp → Type 0
HelpsWithSyntax text (errors.NoToken at) h = HelpsAt (drop at text) h
HelpsWithSyntax text (errors.Unexpected (Some token) expected) h = HelpsWithToken text token expected h
HelpsWithSyntax text other h = ⊥
