-- The tokens of a text are in it, each with a text of its kind.
use Rattle.std.proofs.Common.{◌≡◌, ℕ, ◌+◌, ◌-◌, true, false, ◌==◌, cond, inl, inr, nat_le, Option, Some, None, All, List, [], ◌∷◌, ◌++◌, length, drop, refl, sym, subst, ◌∙◌, ap, arith}
use Rattle.std.proofs.lemmas.Bool.Decides.{nat_tests}
use Rattle.std.proofs.lemmas.List.Elements.{All-contains, All-nil, All-cons}
use Rattle.std.proofs.lemmas.List.{length-append, drop-drop, take_at, drop_at}
use Rattle.graphql_tokens.specs.Lexical.{punctuator, IsToken, sign, spread, name, integer, float, string, block_string, Lexes, nothing, ignored, token, token_between}
use Rattle.graphql_tokens.specs.declared.token.Token.{Token}
use Rattle.graphql_tokens.specs.declared.token.TokenKind.{TokenKind}
use Rattle.graphql_tokens.specs.declared.token.TokenKind.TheVariants as kinds
use Rattle.graphql_tokens.proofs.ScanLemmas.{chosen}
use Rattle.graphql_numbers.specs.Numbers.{IsFloat}
use Rattle.graphql_tokens.proofs.SuffixLemmas.{ignored_behind, string_behind, block_behind}
use Rattle.graphql_syntax.specs.Inputs.{same_kind, spells, is_spelled, are_spelled, text_of, AreFloats}
use Rattle.graphql_syntax.proofs.AsciiLemmas.{float_ascii}

-- the text of a token is one of its kind, and of a float a float
record HasText (kind : TokenKind) (text : List ℕ) : Type 0 where
  is : spells kind text ≡ true
  float : same_kind kind kinds.FloatValue ≡ true → (IsFloat text → ⊥) → ⊥

-- a sign has any text
plain_text : (kind : TokenKind) (text : List ℕ) → spells kind text ≡ true → same_kind kind kinds.FloatValue ≡ false → HasText kind text
plain_text kind text is not_float = record { is = is; float = λ e none. let b : ⊥ = cc in b }

signed : (c b : ℕ) (kind found : TokenKind) (more : Option TokenKind) (text : List ℕ) → HasText kind text → (more ≡ Some found → HasText found text) →
    cond (c == b) (Some kind) more ≡ Some found → HasText found text
signed c b kind found more text is rest e = elim (chosen (c == b) (Some kind) more (Some found) e) [
  | inl h ↦ let k = h.1 in let same : kind ≡ found = cc in subst (λ x. HasText x text) same is
  | inr h ↦ rest h.1
]

sign_spells : (c : ℕ) (kind : TokenKind) (text : List ℕ) → punctuator c ≡ Some kind → HasText kind text
unfolding same_kind
sign_spells c kind text e =
    signed c 33 kinds.ExclamationMark kind _ text (plain_text kinds.ExclamationMark text refl refl)
    (λ e. signed c 36 kinds.Dollar kind _ text (plain_text kinds.Dollar text refl refl)
    (λ e. signed c 38 kinds.Ampersand kind _ text (plain_text kinds.Ampersand text refl refl)
    (λ e. signed c 40 kinds.LeftParenthesis kind _ text (plain_text kinds.LeftParenthesis text refl refl)
    (λ e. signed c 41 kinds.RightParenthesis kind _ text (plain_text kinds.RightParenthesis text refl refl)
    (λ e. signed c 58 kinds.Colon kind _ text (plain_text kinds.Colon text refl refl)
    (λ e. signed c 61 kinds.Equals kind _ text (plain_text kinds.Equals text refl refl)
    (λ e. signed c 64 kinds.At kind _ text (plain_text kinds.At text refl refl)
    (λ e. signed c 91 kinds.LeftBracket kind _ text (plain_text kinds.LeftBracket text refl refl)
    (λ e. signed c 93 kinds.RightBracket kind _ text (plain_text kinds.RightBracket text refl refl)
    (λ e. signed c 123 kinds.LeftBrace kind _ text (plain_text kinds.LeftBrace text refl refl)
    (λ e. signed c 124 kinds.VerticalBar kind _ text (plain_text kinds.VerticalBar text refl refl)
    (λ e. signed c 125 kinds.RightBrace kind None text (plain_text kinds.RightBrace text refl refl)
    (λ e. absurd (let b : ⊥ = cc in b)) e) e) e) e) e) e) e) e) e) e) e) e) e

token_spelled : (kind : TokenKind) (t r : List ℕ) → IsToken kind t r → (front : List ℕ) × (t ≡ front ++ r) × HasText kind front
unfolding same_kind
token_spelled _ _ _ (sign c kind rest is) = (c ∷ [], refl, sign_spells c kind (c ∷ []) is)
token_spelled _ _ _ (spread rest) = (46 ∷ 46 ∷ 46 ∷ [], refl, plain_text kinds.Spread _ refl refl)
token_spelled _ _ _ (name t s rest written is ends) = (s, written, plain_text kinds.Name s is refl)
token_spelled _ _ _ (integer t s rest written is ends) = (s, written, plain_text kinds.IntValue s is refl)
token_spelled _ _ _ (float t s rest written is ends) = (s, written, record { is = float_ascii s is; float = λ e none. none is })
token_spelled _ _ _ (string t rest parts is) = let (front, e) = string_behind t parts rest is in (front, e, plain_text kinds.StringValue front refl refl)
token_spelled _ _ _ (block_string t rest raw is) = let (front, e) = block_behind t raw rest is in (front, e, plain_text kinds.BlockString front refl refl)

-- the text of a token that is at a place of the source
text_there : (source : List ℕ) (k : ℕ) (t front r : List ℕ) (kind : TokenKind) → drop k source ≡ t → k + length t ≡ length source → t ≡ front ++ r →
    text_of source (token_between (length source) kind t r) ≡ front
text_there source k t front r kind at total written =
    let lengths : length t ≡ length front + length r = ap length written ∙ length-append front r in
    let begin : length source - length t ≡ k = omega arith in
    let size : (length source - length r) - k ≡ length front = omega arith in
    rw (begin, size, at, written) (take_at front r (length front) refl)

at_place : (source : List ℕ) (k : ℕ) (t front r : List ℕ) (kind : TokenKind) → drop k source ≡ t → k + length t ≡ length source → t ≡ front ++ r → spells kind front ≡ true →
    is_spelled source (token_between (length source) kind t r) ≡ true
at_place source k t front r kind at total written is =
    let lengths : length t ≡ length front + length r = ap length written ∙ length-append front r in
    let text = text_there source k t front r kind at total written in
    let ordered : nat_le (length source - length t) (length source - length r) ≡ true = grind (arith, nat_tests) in
    let within : nat_le (length source - length r) (length source) ≡ true = grind (arith, nat_tests) in
    rw (ordered, within, text) is

rest_at : (source : List ℕ) (k : ℕ) (t front r : List ℕ) → drop k source ≡ t → k + length t ≡ length source → t ≡ front ++ r →
    (drop (k + length front) source ≡ r) × ((k + length front) + length r ≡ length source)
rest_at source k t front r at total written = (
  sym (drop-drop (length front) k source) ∙ ap (λ l. drop (length front) l) (at ∙ written) ∙ drop_at front r (length front) refl,
  omega (arith, ap length written, length-append front r),
)

spelled_from : (source : List ℕ) (k : ℕ) (t : List ℕ) (ts : List Token) (r : List ℕ) → drop k source ≡ t → k + length t ≡ length source →
    Lexes (length source) t ts r → are_spelled source ts ≡ true
spelled_from source k _ _ _ at total (nothing r) = refl
spelled_from source k _ _ _ at total (ignored t m r ts i l) =
    let (front, e) = ignored_behind t m i in
    let (next, left) = rest_at source k t front m at total e in
    spelled_from source (k + length front) m ts r next left l
spelled_from source k _ _ _ at total (token kind t m r ts i l) =
    let (front, e, is) = token_spelled kind t m i in
    let (next, left) = rest_at source k t front m at total e in
    rw (at_place source k t front m kind at total e is.is) (spelled_from source (k + length front) m ts r next left l)

FloatIfCalled : List ℕ → Token → Type 0
FloatIfCalled source x = same_kind x.kind kinds.FloatValue ≡ true → (IsFloat (text_of source x) → ⊥) → ⊥

floats_from : (source : List ℕ) (k : ℕ) (t : List ℕ) (ts : List Token) (r : List ℕ) → drop k source ≡ t → k + length t ≡ length source →
    Lexes (length source) t ts r → All (FloatIfCalled source) ts
unfolding FloatIfCalled
floats_from source k _ _ _ at total (nothing r) = All-nil (FloatIfCalled source)
floats_from source k _ _ _ at total (ignored t m r ts i l) =
    let (front, e) = ignored_behind t m i in
    let (next, left) = rest_at source k t front m at total e in
    floats_from source (k + length front) m ts r next left l
floats_from source k _ _ _ at total (token kind t m r ts i l) =
    let (front, e, is) = token_spelled kind t m i in
    let (next, left) = rest_at source k t front m at total e in
    let text = text_there source k t front m kind at total e in
    let first : FloatIfCalled source (token_between (length source) kind t m) = λ f none. is.float f (λ g. none (subst IsFloat (sym text) g)) in
    All-cons (FloatIfCalled source) (token_between (length source) kind t m) ts first (floats_from source (k + length front) m ts r next left l)

-- of the tokens of a text, or of its beginning
pub tokens_spelled : (text : List ℕ) (ts : List Token) (r : List ℕ) → Lexes (length text) text ts r → are_spelled text ts ≡ true
tokens_spelled text ts r l = spelled_from text 0 text ts r refl (omega arith) l

pub tokens_floats : (text : List ℕ) (ts : List Token) (r : List ℕ) → Lexes (length text) text ts r → AreFloats text ts
unfolding FloatIfCalled
tokens_floats text ts r l = λ t is kind none. All-contains (FloatIfCalled text) ts t (floats_from text 0 text ts r refl (omega arith) l) is kind none
