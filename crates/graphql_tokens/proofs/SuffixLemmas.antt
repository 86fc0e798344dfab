-- What is behind a token, or behind what is ignored, is the end of the text.
use Rattle.std.proofs.Common.{◌≡◌, ℕ, ◌-◌, ◌≤◌, List, [], ◌∷◌, ◌++◌, length, take, drop, refl, sym, ◌∙◌, ap, arith}
use Rattle.std.proofs.lemmas.List.{append_assoc, length-append, drop_at, take-append-drop}
use Rattle.graphql_tokens.specs.Ignored.{IsLineTerminator, line_feed, carriage_return, carriage_return_line_feed, IsIgnored, byte_order_mark, tab, space, line_terminator, comment, comma}
use Rattle.graphql_tokens.specs.Strings as strings
use Rattle.graphql_tokens.specs.Lexical.{IsToken, sign, spread, name, integer, float, string, block_string}
use Rattle.graphql_tokens.specs.declared.strings.StringPart.{StringPart}
use Rattle.graphql_tokens.specs.declared.token.TokenKind.{TokenKind}

-- the rest is behind a front
abbrev pub Behind : List ℕ → List ℕ → Type 0
Behind t r = (front : List ℕ) × (t ≡ front ++ r)

pub further : (t m r : List ℕ) → Behind t m → Behind m r → Behind t r
further t m r (a, e) (b, f) = (a ++ b, e ∙ ap (λ l. a ++ l) f ∙ sym (append_assoc a b r))

unicode_behind : (t : List ℕ) (code : ℕ) (r : List ℕ) → strings.IsEscapedUnicode t code r → Behind t r
unicode_behind _ _ _ (strings.IsEscapedUnicode.four_digits a b c d code rest v is) = (a ∷ b ∷ c ∷ d ∷ [], refl)
unicode_behind _ _ _ (strings.IsEscapedUnicode.surrogate_pair a b c d e f g h x y rest p q s u) =
    (a ∷ b ∷ c ∷ d ∷ 92 ∷ 117 ∷ e ∷ f ∷ g ∷ h ∷ [], refl)
unicode_behind _ _ _ (strings.IsEscapedUnicode.braces t ds code rest w v is) =
    (123 ∷ (ds ++ 125 ∷ []), ap (λ l. 123 ∷ l) (w ∙ sym (append_assoc ds (125 ∷ []) rest)))

character_behind : (t : List ℕ) (part : StringPart) (r : List ℕ) → strings.IsStringCharacter t part r → Behind t r
character_behind _ _ _ (strings.IsStringCharacter.plain c rest is) = (c ∷ [], refl)
character_behind _ _ _ (strings.IsStringCharacter.unicode t code rest is) =
    let (front, e) = unicode_behind t code rest is in (92 ∷ 117 ∷ front, ap (λ l. 92 ∷ 117 ∷ l) e)
character_behind _ _ _ (strings.IsStringCharacter.escaped c code rest is) = (92 ∷ c ∷ [], refl)

characters_behind : (t : List ℕ) (parts : List StringPart) (r : List ℕ) → strings.AreStringCharacters t parts r → Behind t r
characters_behind _ _ _ (strings.AreStringCharacters.none rest) = ([], refl)
characters_behind _ _ _ (strings.AreStringCharacters.more t m rest part parts is are) =
    further t m rest (character_behind t part m is) (characters_behind m parts rest are)

pub string_behind : (t : List ℕ) (parts : List StringPart) (r : List ℕ) → strings.IsString t parts r → Behind t r
string_behind _ _ _ (strings.IsString.empty rest n) = (34 ∷ 34 ∷ [], refl)
string_behind _ _ _ (strings.IsString.characters t m rest part parts is are) =
    further (34 ∷ t) (34 ∷ rest) rest (quoted (further t m (34 ∷ rest) (character_behind t part m is) (characters_behind m parts (34 ∷ rest) are))) (34 ∷ [], refl) where
      quoted : Behind t (34 ∷ rest) → Behind (34 ∷ t) (34 ∷ rest)
      quoted (front, e) = (34 ∷ front, ap (λ l. 34 ∷ l) e)

block_character_behind : (t raw r : List ℕ) → strings.IsBlockCharacter t raw r → Behind t r
block_character_behind _ _ _ (strings.IsBlockCharacter.quotes rest) = (92 ∷ 34 ∷ 34 ∷ 34 ∷ [], refl)
block_character_behind _ _ _ (strings.IsBlockCharacter.plain c rest is nq ne) = (c ∷ [], refl)

block_characters_behind : (t raw r : List ℕ) → strings.AreBlockCharacters t raw r → Behind t r
block_characters_behind _ _ _ (strings.AreBlockCharacters.none rest) = ([], refl)
block_characters_behind _ _ _ (strings.AreBlockCharacters.more t m rest raw raws is are) =
    further t m rest (block_character_behind t raw m is) (block_characters_behind m raws rest are)

pub block_behind : (t raw r : List ℕ) → strings.IsBlockString t raw r → Behind t r
block_behind _ _ _ (strings.IsBlockString.block t raw rest are) =
    further (34 ∷ 34 ∷ 34 ∷ t) (34 ∷ 34 ∷ 34 ∷ rest) rest (quoted (block_characters_behind t raw (34 ∷ 34 ∷ 34 ∷ rest) are)) (34 ∷ 34 ∷ 34 ∷ [], refl) where
      quoted : Behind t (34 ∷ 34 ∷ 34 ∷ rest) → Behind (34 ∷ 34 ∷ 34 ∷ t) (34 ∷ 34 ∷ 34 ∷ rest)
      quoted (front, e) = (34 ∷ 34 ∷ 34 ∷ front, ap (λ l. 34 ∷ 34 ∷ 34 ∷ l) e)

pub ignored_behind : (t r : List ℕ) → IsIgnored t r → Behind t r
ignored_behind _ _ (byte_order_mark rest) = (239 ∷ 187 ∷ 191 ∷ [], refl)
ignored_behind _ _ (tab rest) = (9 ∷ [], refl)
ignored_behind _ _ (space rest) = (32 ∷ [], refl)
ignored_behind _ _ (comma rest) = (44 ∷ [], refl)
ignored_behind _ _ (line_terminator t r is) = ended t r is where
  ended : (t r : List ℕ) → IsLineTerminator t r → Behind t r
  ended _ _ (line_feed rest) = (10 ∷ [], refl)
  ended _ _ (carriage_return rest n) = (13 ∷ [], refl)
  ended _ _ (carriage_return_line_feed rest) = (13 ∷ 10 ∷ [], refl)
ignored_behind _ _ (comment t run rest is) = (35 ∷ run, ap (λ l. 35 ∷ l) is.written)

pub token_behind : (kind : TokenKind) (t r : List ℕ) → IsToken kind t r → Behind t r
token_behind _ _ _ (sign c kind rest is) = (c ∷ [], refl)
token_behind _ _ _ (spread rest) = (46 ∷ 46 ∷ 46 ∷ [], refl)
token_behind _ _ _ (name t s rest written is ends) = (s, written)
token_behind _ _ _ (integer t s rest written is ends) = (s, written)
token_behind _ _ _ (float t s rest written is ends) = (s, written)
token_behind _ _ _ (string t rest parts is) = string_behind t parts rest is
token_behind _ _ _ (block_string t rest raw is) = block_behind t raw rest is

-- the end of a text, cut off by its length
pub cut_behind : (s r : List ℕ) → Behind s r → drop (length s - length r) s ≡ r
cut_behind s r (front, written) =
    let size : length s - length r ≡ length front = omega (arith, ap length written, length-append front r) in
    rw size (ap (λ l. drop (length front) l) written ∙ drop_at front r (length front) refl)

pub behind_within : (s r : List ℕ) → Behind s r → length r ≤ length s
behind_within s r (front, written) = omega (arith, ap length written, length-append front r)

pub behind_byte : (at : ℕ) (s : List ℕ) → Behind s (drop at s)
behind_byte at s = (take at s, sym (take-append-drop at s))
