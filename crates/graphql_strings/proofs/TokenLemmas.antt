-- A string token has a value, whatever is behind it.
use Rattle.std.proofs.Common.{◌≡◌, ℕ, ◌⊎◌, inl, inr, List, [], ◌∷◌, ◌++◌, flat_map, Option, Some, Bool, true, false, cond, ◌==◌, refl, sym, ◌∙◌, ap, append_assoc}
use Rattle.graphql_tokens.specs.Strings.{IsEscapedUnicode, four_digits, surrogate_pair, braces, IsStringCharacter, plain, unicode, escaped, AreStringCharacters, none, more, IsString, empty, characters, IsBlockCharacter, AreBlockCharacters, IsBlockString, block}
use Rattle.graphql_tokens.specs.Strings as strings
use Rattle.graphql_tokens.specs.Lexical.{punctuator, IsToken, sign, spread, name, integer, float, string, block_string}
use Rattle.graphql_tokens.specs.declared.strings.StringPart.{StringPart}
use Rattle.graphql_tokens.specs.declared.token.TokenKind.{TokenKind}
use Rattle.graphql_tokens.specs.declared.token.TokenKind.TheVariants.{StringValue, BlockString}
use Rattle.graphql_strings.specs.BlockStrings.{block_string_value}
use Rattle.graphql_strings.specs.Values.{part_value, StandsFor}
use Rattle.graphql_strings.specs.Values as values

-- what is before the rest, as much as it is with any other rest
Before : (List ℕ → List ℕ → Type 0) → List ℕ → List ℕ → Type 0
Before Is text rest = (s : List ℕ) × (text ≡ s ++ rest) × ((other : List ℕ) → Is (s ++ other) other)

unicode_before : (text : List ℕ) (code : ℕ) (rest : List ℕ) → IsEscapedUnicode text code rest → Before (λ t r. IsEscapedUnicode t code r) text rest
unfolding Before
unicode_before _ _ _ (four_digits a b c d code rest value is) =
    (a ∷ b ∷ c ∷ d ∷ [], refl, λ other. four_digits a b c d code other value is)
unicode_before _ _ _ (surrogate_pair a b c d e f g h x y rest high is_high low is_low) =
    (a ∷ b ∷ c ∷ d ∷ 92 ∷ 117 ∷ e ∷ f ∷ g ∷ h ∷ [], refl, λ other. surrogate_pair a b c d e f g h x y other high is_high low is_low)
unicode_before _ _ _ (braces t digits code rest written value is) = (
  123 ∷ (digits ++ 125 ∷ []),
  ap (λ l. 123 ∷ l) (written ∙ sym (append_assoc digits (125 ∷ []) rest)),
  λ other. braces ((digits ++ 125 ∷ []) ++ other) digits code other (append_assoc digits (125 ∷ []) other) value is,
)

character_before : (text : List ℕ) (part : StringPart) (rest : List ℕ) → IsStringCharacter text part rest → Before (λ t r. IsStringCharacter t part r) text rest
unfolding Before
character_before _ _ _ (plain c rest is) = (c ∷ [], refl, λ other. plain c other is)
character_before _ _ _ (unicode t code rest is) =
    let (s, written, any) = unicode_before t code rest is in
    (92 ∷ 117 ∷ s, ap (λ l. 92 ∷ 117 ∷ l) written, λ other. unicode (s ++ other) code other (any other))
character_before _ _ _ (escaped c code rest is) = (92 ∷ c ∷ [], refl, λ other. escaped c code other is)

characters_before : (text : List ℕ) (parts : List StringPart) (rest : List ℕ) → AreStringCharacters text parts rest → Before (λ t r. AreStringCharacters t parts r) text rest
unfolding Before
characters_before _ _ _ (none rest) = ([], refl, λ other. none other)
characters_before _ _ _ (more t middle rest part parts is are) =
    let (s, written, one) = character_before t part middle is in
    let (u, behind, all) = characters_before middle parts rest are in (
      s ++ u,
      written ∙ ap (λ l. s ++ l) behind ∙ sym (append_assoc s u rest),
      λ other. rw (append_assoc s u other) (more (s ++ (u ++ other)) (u ++ other) other part parts (one (u ++ other)) (all other)),
    )

-- the text of a string alone
string_before : (text : List ℕ) (parts : List StringPart) (rest : List ℕ) → IsString text parts rest → (s : List ℕ) × (text ≡ s ++ rest) × IsString s parts []
unfolding Before
string_before _ _ _ (empty rest n) = (34 ∷ 34 ∷ [], refl, empty [] refl)
string_before _ _ _ (characters t middle rest part parts is are) =
    let (s, written, one) = character_before t part middle is in
    let (u, behind, all) = characters_before middle parts (34 ∷ rest) are in
    let first : IsStringCharacter (s ++ (u ++ 34 ∷ [])) part (u ++ 34 ∷ []) = one (u ++ 34 ∷ []) in (
      34 ∷ (s ++ (u ++ 34 ∷ [])),
      ap (λ l. 34 ∷ l) (written ∙ ap (λ l. s ++ l) (behind ∙ sym (append_assoc u (34 ∷ []) rest)) ∙ sym (append_assoc s (u ++ 34 ∷ []) rest)),
      characters (s ++ (u ++ 34 ∷ [])) (u ++ 34 ∷ []) [] part parts first (all (34 ∷ [])),
    )

-- what is before the rest, as much as it is with any rest that begins the same
BlockBefore : List ℕ → List ℕ → (List ℕ → List ℕ → Type 0) → Type 0
BlockBefore text rest Is = (s : List ℕ) × (text ≡ s ++ rest) × ((other behind : List ℕ) → rest ≡ other ++ behind → Is (s ++ other) other)

block_before : (text raw rest : List ℕ) → IsBlockCharacter text raw rest → BlockBefore text rest (λ t r. IsBlockCharacter t raw r)
unfolding BlockBefore
block_before _ _ _ (strings.IsBlockCharacter.quotes rest) = (92 ∷ 34 ∷ 34 ∷ 34 ∷ [], refl, λ other behind e. strings.IsBlockCharacter.quotes other)
block_before _ _ _ (strings.IsBlockCharacter.plain c rest is nq ne) = (
  c ∷ [],
  refl,
  λ other behind e. strings.IsBlockCharacter.plain c other is
      (λ b w. nq (b ++ behind) (ap (λ l. c ∷ l) e ∙ ap (λ l. l ++ behind) w))
      (λ b w. ne (b ++ behind) (ap (λ l. c ∷ l) e ∙ ap (λ l. l ++ behind) w)),
)

blocks_before : (text raw rest : List ℕ) → AreBlockCharacters text raw rest → BlockBefore text rest (λ t r. AreBlockCharacters t raw r)
unfolding BlockBefore
blocks_before _ _ _ (strings.AreBlockCharacters.none rest) = ([], refl, λ other behind e. strings.AreBlockCharacters.none other)
blocks_before _ _ _ (strings.AreBlockCharacters.more t middle rest raw raws is are) =
    let (s, written, one) = block_before t raw middle is in
    let (u, after, all) = blocks_before middle raws rest are in (
      s ++ u,
      written ∙ ap (λ l. s ++ l) after ∙ sym (append_assoc s u rest),
      λ other behind e. rw (append_assoc s u other)
          (strings.AreBlockCharacters.more (s ++ (u ++ other)) (u ++ other) other raw raws
          (one (u ++ other) behind (after ∙ ap (λ l. u ++ l) e ∙ sym (append_assoc u other behind)))
          (all other behind e)),
    )

block_string_before : (text raw rest : List ℕ) → IsBlockString text raw rest → (s : List ℕ) × (text ≡ s ++ rest) × IsBlockString s raw []
unfolding BlockBefore
block_string_before _ _ _ (block t raw rest are) =
    let (s, written, all) = blocks_before t raw (34 ∷ 34 ∷ 34 ∷ rest) are in (
      34 ∷ 34 ∷ 34 ∷ (s ++ 34 ∷ 34 ∷ 34 ∷ []),
      ap (λ l. 34 ∷ 34 ∷ 34 ∷ l) (written ∙ sym (append_assoc s (34 ∷ 34 ∷ 34 ∷ []) rest)),
      block (s ++ 34 ∷ 34 ∷ 34 ∷ []) raw [] (all (34 ∷ 34 ∷ 34 ∷ []) rest refl),
    )

-- a string begins and ends with a quote
Quoted : List ℕ → List ℕ → Type 0
Quoted text rest = (t s : List ℕ) × (text ≡ 34 ∷ t) × (text ≡ s ++ 34 ∷ rest)

string_quoted : (text : List ℕ) (parts : List StringPart) (rest : List ℕ) → IsString text parts rest → Quoted text rest
unfolding Before Quoted
string_quoted _ _ _ (empty rest n) = (34 ∷ rest, 34 ∷ [], refl, refl)
string_quoted _ _ _ (characters t middle rest part parts is are) =
    let (u, written, any) = characters_before t (part ∷ parts) (34 ∷ rest) (more t middle (34 ∷ rest) part parts is are) in
    (t, 34 ∷ u, refl, ap (λ l. 34 ∷ l) written)

block_quoted : (text raw rest : List ℕ) → IsBlockString text raw rest → Quoted text rest
unfolding BlockBefore Quoted
block_quoted _ _ _ (block t raw rest are) =
    let (u, written, any) = blocks_before t raw (34 ∷ 34 ∷ 34 ∷ rest) are in (
      34 ∷ 34 ∷ t,
      34 ∷ 34 ∷ 34 ∷ (u ++ 34 ∷ 34 ∷ []),
      refl,
      ap (λ l. 34 ∷ 34 ∷ 34 ∷ l) (written ∙ sym (append_assoc u (34 ∷ 34 ∷ []) (34 ∷ rest))),
    )

pub quotes_around : (text bytes : List ℕ) → StandsFor text bytes → (t s : List ℕ) × (text ≡ 34 ∷ t) × (text ≡ s ++ 34 ∷ [])
unfolding Quoted
quotes_around _ _ (values.StandsFor.string text parts is) = string_quoted text parts [] is
quotes_around _ _ (values.StandsFor.block_string text raw is) = block_quoted text raw [] is

-- no punctuator is a string
Unquoted : Option TokenKind → Type 0
Unquoted (Some StringValue) = ⊥
Unquoted (Some BlockString) = ⊥
Unquoted _ = Unit {0}

either : (b : Bool) (x y : Option TokenKind) → Unquoted x → Unquoted y → Unquoted (cond b x y)
either true x y p q = p
either false x y p q = q

unquoted : (c : ℕ) → Unquoted (punctuator c)
unfolding Unquoted
unquoted c =
    either (c == 33) _ _ tt (either (c == 36) _ _ tt (either (c == 38) _ _ tt (either (c == 40) _ _ tt (either (c == 41) _ _ tt (either (c == 58) _ _ tt (either (c == 61) _ _ tt (either (c == 64) _ _ tt (either (c == 91) _ _ tt (either (c == 93) _ _ tt (either (c == 123) _ _ tt (either (c == 124) _ _ tt (either (c == 125) _ _ tt tt))))))))))))

no_punctuator : (c : ℕ) (kind : TokenKind) → punctuator c ≡ Some kind → (kind ≡ StringValue) ⊎ (kind ≡ BlockString) → ⊥
unfolding Unquoted
no_punctuator c kind e (inl is) = rw (e, is) at (unquoted c)
no_punctuator c kind e (inr is) = rw (e, is) at (unquoted c)

-- so each string token has a text of its own, with a value
pub token_value : (kind : TokenKind) (text rest : List ℕ) → IsToken kind text rest → (kind ≡ StringValue) ⊎ (kind ≡ BlockString) →
    (spelling value : List ℕ) × (text ≡ spelling ++ rest) × StandsFor spelling value
token_value _ _ _ (sign c kind rest e) is = absurd (no_punctuator c kind e is)
token_value _ _ _ (spread rest) is = absurd (elim is [ inl e ↦ (let h : ⊥ = cc in h) | inr e ↦ (let h : ⊥ = cc in h) ])
token_value _ _ _ (name text s rest written a b) is = absurd (elim is [ inl e ↦ (let h : ⊥ = cc in h) | inr e ↦ (let h : ⊥ = cc in h) ])
token_value _ _ _ (integer text s rest written a b) is = absurd (elim is [ inl e ↦ (let h : ⊥ = cc in h) | inr e ↦ (let h : ⊥ = cc in h) ])
token_value _ _ _ (float text s rest written a b) is = absurd (elim is [ inl e ↦ (let h : ⊥ = cc in h) | inr e ↦ (let h : ⊥ = cc in h) ])
token_value _ _ _ (string text rest parts are) is =
    let (s, written, alone) = string_before text parts rest are in
    (s, flat_map part_value parts, written, values.StandsFor.string s parts alone)
token_value _ _ _ (block_string text rest raw are) is =
    let (s, written, alone) = block_string_before text raw rest are in
    (s, block_string_value raw, written, values.StandsFor.block_string s raw alone)
