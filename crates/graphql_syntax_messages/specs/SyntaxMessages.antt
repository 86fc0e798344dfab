-- The texts that say why a GraphQL text is refused.
use Rattle.std.specs.Prelude.{ℕ, List, ◌≡◌, ◌≤◌, ◌==◌, ◌||◌, ◌++◌, ◌-◌, ◌/◌, ◌%◌, ◌∷◌, [], Bool, Option, None, Some, chars, codes, decimal, length, nat_le, nat_lt, slice_range, true, if◌then◌else◌}
use Rattle.std.specs.Str.{IsCharBoundary}
use Rattle.std.specs.Char.{is_control, encode_utf8}
use Rattle.std.specs.Fmt.{digit_glyph}
use Rattle.std.specs.Int.{is_in_range}
use Rattle.graphql_parser.specs.declared.bounds.Bounds.{Bounds}
use Rattle.graphql_parser.specs.declared.errors.SyntaxError.{SyntaxError}
use Rattle.graphql_parser.specs.declared.errors.SyntaxError.TheVariants as errors
use Rattle.graphql_syntax.specs.Keywords.{keyword_text}
use Rattle.graphql_syntax.specs.declared.refusals.Expected.{Expected}
use Rattle.graphql_syntax.specs.declared.refusals.Expected.TheVariants as expected
use Rattle.graphql_syntax_messages.specs.declared.messages.SyntaxMessage.{SyntaxMessage}
use Rattle.graphql_syntax_messages.specs.declared.messages.SyntaxMessage.TheVariants as message
use Rattle.graphql_tokens.specs.declared.token.Token.{Token}
use Rattle.graphql_tokens.specs.declared.token.TokenKind.{TokenKind}
use Rattle.graphql_tokens.specs.declared.token.TokenKind.TheVariants as kind

-- a text in backquotes
abbrev pub quoted : List ℕ → List ℕ
quoted text = codes "`" ++ (text ++ codes "`")

-- what a token of this kind is called: a punctuator by itself, in backquotes
abbrev pub kind_words : TokenKind → List ℕ
kind_words kind.ExclamationMark = codes "`!`"
kind_words kind.Dollar = codes "`$`"
kind_words kind.Ampersand = codes "`&`"
kind_words kind.LeftParenthesis = codes "`(`"
kind_words kind.RightParenthesis = codes "`)`"
kind_words kind.Spread = codes "`...`"
kind_words kind.Colon = codes "`:`"
kind_words kind.Equals = codes "`=`"
kind_words kind.At = codes "`@`"
kind_words kind.LeftBracket = codes "`[`"
kind_words kind.RightBracket = codes "`]`"
kind_words kind.LeftBrace = codes "`{`"
kind_words kind.VerticalBar = codes "`|`"
kind_words kind.RightBrace = codes "`}`"
kind_words kind.Name = codes "a name"
kind_words kind.IntValue = codes "an integer"
kind_words kind.FloatValue = codes "a float"
kind_words kind.StringValue = codes "a string"
kind_words kind.BlockString = codes "a block string"

-- what was expected
abbrev pub expected_words : Expected → List ℕ
expected_words (expected.Token k) = kind_words k
expected_words (expected.Keyword k) = quoted (keyword_text k)
expected_words expected.Value = codes "a value"
expected_words expected.ConstantValue = codes "a constant value"
expected_words expected.EnumValue = codes "an enum value"
expected_words expected.FragmentName = codes "a fragment name"
expected_words expected.Selection = codes "a selection"
expected_words expected.OperationType = codes "an operation type"
expected_words expected.Definition = codes "a definition"
expected_words expected.TypeSystemDefinition = codes "a type system definition"
expected_words expected.Extension = codes "an extension"
expected_words expected.ExtensionPart = codes "a part of the extension"
expected_words expected.DirectiveLocation = codes "a directive location"

-- a character: the number of a control character with two of its digits, of another the character itself
abbrev pub character_words : ℕ → List ℕ
character_words character =
    if is_control character then codes "U+00" ++ (digit_glyph true (character / 16) ∷ digit_glyph true (character % 16) ∷ [])
    else quoted (encode_utf8 character)

-- a line ends with this byte: a line feed or a carriage return
abbrev pub ends_line : ℕ → Bool
ends_line byte = byte == 10 || byte == 13

-- a character begins with this byte of UTF-8
abbrev pub begins_character : ℕ → Bool
begins_character byte = nat_lt byte 128 || nat_le 192 byte

-- the first line of a text, up to so many characters
abbrev pub excerpt_within : ℕ → List ℕ → List ℕ
excerpt_within left [] = []
excerpt_within left (byte ∷ rest) =
    if ends_line byte then []
    else if begins_character byte then (if left == 0 then [] else byte ∷ excerpt_within (left - 1) rest)
    else byte ∷ excerpt_within left rest

-- what is shown of a text: of its first line, 40 characters at most
abbrev pub excerpt : List ℕ → List ℕ
excerpt = excerpt_within 40

-- the text of a message
abbrev pub message_text : SyntaxMessage → List ℕ
message_text message.OutOfMemory = codes "out of memory"
message_text (message.UnexpectedCharacter character) = codes "unexpected character " ++ character_words character
message_text message.InvalidNumber = codes "invalid number"
message_text message.InvalidString = codes "invalid string"
message_text (message.TooManyTokens bound) = codes "more than " ++ (decimal bound ++ codes " tokens")
message_text (message.Unexpected e found) = codes "expected " ++ (expected_words e ++ (codes ", found " ++ quoted found.now))
message_text (message.UnexpectedEnd e) = codes "expected " ++ (expected_words e ++ codes ", found the end of the text")
message_text (message.TooDeep bound) = codes "more than " ++ (decimal bound ++ codes " levels of brackets and braces")

-- what is said where no token begins, by the characters there. A quotation mark begins a string, and a minus sign
-- or a digit a number
abbrev pub no_token_message : List ℕ → SyntaxMessage
no_token_message [] = message.InvalidString
no_token_message (character ∷ rest) =
    if character == 34 then message.InvalidString
    else if character == 45 || is_in_range 48 57 character then message.InvalidNumber
    else message.UnexpectedCharacter character

-- the text between two bytes, if characters begin or the text ends at both, and else none
abbrev pub IsPart : List ℕ → ℕ → ℕ → List ℕ → Type 0
IsPart text start end part =
    (start ≤ end → IsCharBoundary text start → IsCharBoundary text end → part ≡ slice_range text start end)

-- that something was expected in place of a token, of which the message shows the beginning
abbrev pub IsUnexpected : List ℕ → Token → Expected → SyntaxMessage → Type 0
IsUnexpected text token e (message.Unexpected wanted found) = (wanted ≡ e) ×
    ((part : List ℕ) × IsPart text token.start token.end part × (found.now ≡ excerpt part))
IsUnexpected text token e _ = ⊥

-- the message of an error of a text: what was expected, what was found there, and the bound that was passed
abbrev pub IsMessageOf : Bounds → List ℕ → SyntaxError → SyntaxMessage → Type 0
IsMessageOf bounds text errors.OutOfMemory m = m ≡ message.OutOfMemory
IsMessageOf bounds text (errors.NoToken at) m = (part : List ℕ) × IsPart text at (length text) part × (m ≡ no_token_message (chars part))
IsMessageOf bounds text (errors.TooManyTokens at) m = m ≡ message.TooManyTokens bounds.tokens
IsMessageOf bounds text (errors.Unexpected None e) m = m ≡ message.UnexpectedEnd e
IsMessageOf bounds text (errors.Unexpected (Some token) e) m = IsUnexpected text token e m
IsMessageOf bounds text (errors.TooDeep token) m = m ≡ message.TooDeep bounds.depth
