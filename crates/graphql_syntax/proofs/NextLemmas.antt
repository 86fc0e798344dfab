-- What a token that comes next says of other tests.
use Rattle.std.proofs.Common.{◌≡◌, Bool, true, false, not, ◌&&◌, ◌||◌, ◌⊎◌, inl, inr, List, [], ◌∷◌, refl, subst}
use Rattle.std.specs.Str.{bytes_eq}
use Rattle.std.proofs.lemmas.Slice.Eq.{bytes_eq-Decides}
use Rattle.graphql_tokens.specs.declared.token.Token.{Token}
use Rattle.graphql_tokens.specs.declared.token.TokenKind.{TokenKind}
use Rattle.graphql_tokens.specs.declared.token.TokenKind.TheVariants.{ExclamationMark, Dollar, Ampersand, LeftParenthesis, RightParenthesis, Spread, Colon, Equals, At, LeftBracket, RightBracket, LeftBrace, VerticalBar, RightBrace, Name, IntValue, FloatValue, StringValue, BlockString}
use Rattle.graphql_tokens.proofs.ScanLemmas.{both_pass, or_true}
use Rattle.graphql_syntax.proofs.AsciiLemmas.{one_of}
use Rattle.graphql_syntax.proofs.TokenKinds.{same_kinds}
use Rattle.graphql_syntax.specs.Keywords.{keyword_text}
use Rattle.graphql_syntax.specs.declared.keywords.Keyword.{Keyword}
use Rattle.graphql_syntax.specs.declared.production.More.TheVariants.{Until}
use Rattle.graphql_syntax.specs.Reading.{more_test}
use Rattle.graphql_syntax.specs.Inputs.{same_kind, Input, TokenTest, is_kind, is_keyword, is_string, first_passes, next_passes, text_of, sees, sees_keyword}

-- a test of the kind alone
abbrev pub by_kind : (TokenKind → Bool) → TokenTest
by_kind f = λ source t. f t.kind

-- a test that all kinds pass
abbrev all_of : (TokenKind → Bool) → List TokenKind → Bool
all_of p [] = true
all_of p (k ∷ kinds) = p k && all_of p kinds

abbrev pub all_kinds : (TokenKind → Bool) → Bool
all_kinds p = all_of p (ExclamationMark ∷ Dollar ∷ Ampersand ∷ LeftParenthesis ∷ RightParenthesis ∷ Spread ∷ Colon ∷ Equals ∷ At ∷ LeftBracket ∷ RightBracket ∷ LeftBrace ∷ VerticalBar ∷ RightBrace ∷ Name ∷ IntValue ∷ FloatValue ∷ StringValue ∷ BlockString ∷ [])

left_passes : (a b : Bool) → (a && b) ≡ true → a ≡ true
left_passes a b e = (both_pass a b e).0

right_passes : (a b : Bool) → (a && b) ≡ true → b ≡ true
right_passes a b e = (both_pass a b e).1

behind_kind : (p : TokenKind → Bool) (k : TokenKind) (kinds : List TokenKind) → all_of p (k ∷ kinds) ≡ true → all_of p kinds ≡ true
behind_kind p k kinds e = right_passes (p k) (all_of p kinds) e

here_kind : (p : TokenKind → Bool) (k : TokenKind) (kinds : List TokenKind) → all_of p (k ∷ kinds) ≡ true → p k ≡ true
here_kind p k kinds e = left_passes (p k) (all_of p kinds) e

is_among : TokenKind → List TokenKind → Bool
is_among k [] = false
is_among k (x ∷ kinds) = same_kind x k || is_among k kinds

among_passes : (p : TokenKind → Bool) (k : TokenKind) (kinds : List TokenKind) → is_among k kinds ≡ true → all_of p kinds ≡ true → p k ≡ true
unfolding is_among
among_passes p k [] s e = absurd (let h : ⊥ = cc in h)
among_passes p k (x ∷ kinds) s e = elim (one_of (same_kind x k) (is_among k kinds) s) [
  | inl h ↦ subst (λ y. p y ≡ true) (same_kinds x k h) (here_kind p x kinds e)
  | inr h ↦ among_passes p k kinds h (behind_kind p x kinds e)
]

among_all : (k : TokenKind) → is_among k (ExclamationMark ∷ Dollar ∷ Ampersand ∷ LeftParenthesis ∷ RightParenthesis ∷ Spread ∷ Colon ∷ Equals ∷ At ∷ LeftBracket ∷ RightBracket ∷ LeftBrace ∷ VerticalBar ∷ RightBrace ∷ Name ∷ IntValue ∷ FloatValue ∷ StringValue ∷ BlockString ∷ []) ≡ true
unfolding is_among same_kind
among_all ExclamationMark = refl
among_all Dollar = refl
among_all Ampersand = refl
among_all LeftParenthesis = refl
among_all RightParenthesis = refl
among_all Spread = refl
among_all Colon = refl
among_all Equals = refl
among_all At = refl
among_all LeftBracket = refl
among_all RightBracket = refl
among_all LeftBrace = refl
among_all VerticalBar = refl
among_all RightBrace = refl
among_all Name = refl
among_all IntValue = refl
among_all FloatValue = refl
among_all StringValue = refl
among_all BlockString = refl

pub each_kind : (p : TokenKind → Bool) → all_kinds p ≡ true → (k : TokenKind) → p k ≡ true
each_kind p e k = among_passes p k (ExclamationMark ∷ Dollar ∷ Ampersand ∷ LeftParenthesis ∷ RightParenthesis ∷ Spread ∷ Colon ∷ Equals ∷ At ∷ LeftBracket ∷ RightBracket ∷ LeftBrace ∷ VerticalBar ∷ RightBrace ∷ Name ∷ IntValue ∷ FloatValue ∷ StringValue ∷ BlockString ∷ []) (among_all k) e

-- where each kind that passes f passes g
pub passes_so : (f g : TokenKind → Bool) → all_kinds (λ k. not (f k) || g k) ≡ true → (i : Input) → next_passes (by_kind f) i ≡ true → next_passes (by_kind g) i ≡ true
unfolding next_passes
passes_so f g all i e = by i.tokens e where
  so : (a b : Bool) → (not a || b) ≡ true → a ≡ true → b ≡ true
  so true b p q = p
  so false b p q = absurd (let h : ⊥ = cc in h)

  by : (tokens : List Token) → first_passes (by_kind f) i.source tokens ≡ true → first_passes (by_kind g) i.source tokens ≡ true
  by [] e = absurd (let h : ⊥ = cc in h)
  by (t ∷ rest) e = so (f t.kind) (g t.kind) (each_kind (λ k. not (f k) || g k) all t.kind) e

-- where no kind passes both
pub passes_not : (f g : TokenKind → Bool) → all_kinds (λ k. not (f k && g k)) ≡ true → (i : Input) → next_passes (by_kind f) i ≡ true → next_passes (by_kind g) i ≡ false
unfolding next_passes
passes_not f g all i e = by i.tokens e where
  so : (a b : Bool) → not (a && b) ≡ true → a ≡ true → b ≡ false
  so true true p q = absurd (let h : ⊥ = cc in h)
  so true false p q = refl
  so false b p q = absurd (let h : ⊥ = cc in h)

  by : (tokens : List Token) → first_passes (by_kind f) i.source tokens ≡ true → first_passes (by_kind g) i.source tokens ≡ false
  by [] e = refl
  by (t ∷ rest) e = so (f t.kind) (g t.kind) (each_kind (λ k. not (f k && g k)) all t.kind) e

-- where each kind that passes f passes g, and none comes that passes g
pub passes_less : (f g : TokenKind → Bool) → all_kinds (λ k. not (f k) || g k) ≡ true → (i : Input) → next_passes (by_kind g) i ≡ false → next_passes (by_kind f) i ≡ false
unfolding next_passes
passes_less f g all i e = by i.tokens e where
  so : (a b : Bool) → (not a || b) ≡ true → b ≡ false → a ≡ false
  so true true p q = absurd (let h : ⊥ = cc in h)
  so true false p q = absurd (let h : ⊥ = cc in h)
  so false b p q = refl

  by : (tokens : List Token) → first_passes (by_kind g) i.source tokens ≡ false → first_passes (by_kind f) i.source tokens ≡ false
  by [] e = refl
  by (t ∷ rest) e = so (f t.kind) (g t.kind) (each_kind (λ k. not (f k) || g k) all t.kind) e

-- one test or another
pub passes_left : (p q : TokenTest) (i : Input) → next_passes p i ≡ true → next_passes (λ source t. p source t || q source t) i ≡ true
unfolding next_passes
passes_left p q i e = by i.tokens e where
  by : (tokens : List Token) → first_passes p i.source tokens ≡ true → first_passes (λ source t. p source t || q source t) i.source tokens ≡ true
  by [] e = e
  by (t ∷ rest) e = rw e refl

pub passes_right : (p q : TokenTest) (i : Input) → next_passes q i ≡ true → next_passes (λ source t. p source t || q source t) i ≡ true
unfolding next_passes
passes_right p q i e = by i.tokens e where
  by : (tokens : List Token) → first_passes q i.source tokens ≡ true → first_passes (λ source t. p source t || q source t) i.source tokens ≡ true
  by [] e = e
  by (t ∷ rest) e = rw e (or_true (p i.source t))

pub passes_or : (p q : TokenTest) (i : Input) → next_passes (λ source t. p source t || q source t) i ≡ true → (next_passes p i ≡ true) ⊎ (next_passes q i ≡ true)
unfolding next_passes
passes_or p q i e = by i.tokens e where
  by : (tokens : List Token) → first_passes (λ source t. p source t || q source t) i.source tokens ≡ true →
      (first_passes p i.source tokens ≡ true) ⊎ (first_passes q i.source tokens ≡ true)
  by [] e = inl e
  by (t ∷ rest) e = one_of (p i.source t) (q i.source t) e

pub fails_or : (p q : TokenTest) (i : Input) → next_passes p i ≡ false → next_passes q i ≡ false → next_passes (λ source t. p source t || q source t) i ≡ false
unfolding next_passes
fails_or p q i e f = by i.tokens e f where
  by : (tokens : List Token) → first_passes p i.source tokens ≡ false → first_passes q i.source tokens ≡ false →
      first_passes (λ source t. p source t || q source t) i.source tokens ≡ false
  by [] e f = refl
  by (t ∷ rest) e f = rw (e, f) refl

-- no token comes
pub at_end : (test : TokenTest) (i : Input) → i.tokens ≡ [] → next_passes test i ≡ false
unfolding next_passes
at_end test i e = rw e refl

-- keywords are names
pub keyword_is_name : (keyword : Keyword) (i : Input) → sees_keyword keyword i ≡ true → sees Name i ≡ true
unfolding next_passes
keyword_is_name keyword i e = by i.tokens e where
  by : (tokens : List Token) → first_passes (is_keyword keyword) i.source tokens ≡ true → first_passes (is_kind Name) i.source tokens ≡ true
  by [] e = absurd (let h : ⊥ = cc in h)
  by (t ∷ rest) e = (both_pass (same_kind t.kind Name) (bytes_eq (text_of i.source t) (keyword_text keyword)) e).0

pub no_name_no_keyword : (keyword : Keyword) (i : Input) → sees Name i ≡ false → sees_keyword keyword i ≡ false
unfolding next_passes
no_name_no_keyword keyword i e = by i.tokens e where
  by : (tokens : List Token) → first_passes (is_kind Name) i.source tokens ≡ false → first_passes (is_keyword keyword) i.source tokens ≡ false
  by [] e = refl
  by (t ∷ rest) e = rw e refl

-- a keyword is no other
pub other_keyword : (a b : Keyword) (i : Input) → bytes_eq (keyword_text a) (keyword_text b) ≡ false → sees_keyword a i ≡ true → sees_keyword b i ≡ false
unfolding next_passes
other_keyword a b i differ e = by i.tokens e where
  by : (tokens : List Token) → first_passes (is_keyword a) i.source tokens ≡ true → first_passes (is_keyword b) i.source tokens ≡ false
  by [] e = refl
  by (t ∷ rest) e =
      let (named, same) = both_pass (same_kind t.kind Name) (bytes_eq (text_of i.source t) (keyword_text a)) e in
      let equal : text_of i.source t ≡ keyword_text a = (bytes_eq-Decides (text_of i.source t) (keyword_text a)).0 same in
      rw (named, equal) differ

-- a string, or a block string
abbrev pub is_string_kind : TokenKind → Bool
is_string_kind k = same_kind k StringValue || same_kind k BlockString

-- what may go on a rule that ends with a part that may be left out: `!`, `(`, `:`, `@`, `=`, `&`, `|`
abbrev pub goes_on : TokenKind → Bool
goes_on ExclamationMark = true
goes_on LeftParenthesis = true
goes_on Colon = true
goes_on At = true
goes_on Equals = true
goes_on Ampersand = true
goes_on VerticalBar = true
goes_on _ = false

-- and no such token comes
abbrev pub Ends : Input → Type 0
Ends i = next_passes (by_kind goes_on) i ≡ false

pub ends_at_end : (i : Input) → i.tokens ≡ [] → Ends i
ends_at_end i e = at_end (by_kind goes_on) i e

pub not_mark : (i : Input) → Ends i → sees ExclamationMark i ≡ false
unfolding same_kind
not_mark i e = passes_less (λ k. same_kind k ExclamationMark) goes_on refl i e

pub not_parenthesis : (i : Input) → Ends i → sees LeftParenthesis i ≡ false
unfolding same_kind
not_parenthesis i e = passes_less (λ k. same_kind k LeftParenthesis) goes_on refl i e

pub not_colon : (i : Input) → Ends i → sees Colon i ≡ false
unfolding same_kind
not_colon i e = passes_less (λ k. same_kind k Colon) goes_on refl i e

pub not_at : (i : Input) → Ends i → sees At i ≡ false
unfolding same_kind
not_at i e = passes_less (λ k. same_kind k At) goes_on refl i e

pub not_equals : (i : Input) → Ends i → sees Equals i ≡ false
unfolding same_kind
not_equals i e = passes_less (λ k. same_kind k Equals) goes_on refl i e

pub not_ampersand : (i : Input) → Ends i → sees Ampersand i ≡ false
unfolding same_kind
not_ampersand i e = passes_less (λ k. same_kind k Ampersand) goes_on refl i e

pub not_bar : (i : Input) → Ends i → sees VerticalBar i ≡ false
unfolding same_kind
not_bar i e = passes_less (λ k. same_kind k VerticalBar) goes_on refl i e

-- a name, a brace
pub name_no_string : (i : Input) → sees Name i ≡ true → next_passes is_string i ≡ false
unfolding same_kind
name_no_string i e = passes_not (λ k. same_kind k Name) is_string_kind refl i e

pub name_no_brace : (i : Input) → sees Name i ≡ true → sees LeftBrace i ≡ false
unfolding same_kind
name_no_brace i e = passes_not (λ k. same_kind k Name) (λ k. same_kind k LeftBrace) refl i e

pub brace_no_name : (i : Input) → sees LeftBrace i ≡ true → sees Name i ≡ false
unfolding same_kind
brace_no_name i e = passes_not (λ k. same_kind k LeftBrace) (λ k. same_kind k Name) refl i e

pub brace_ends : (i : Input) → sees LeftBrace i ≡ true → Ends i
unfolding same_kind
brace_ends i e = passes_not (λ k. same_kind k LeftBrace) goes_on refl i e

-- a closing parenthesis or brace goes on no rule, and stops what is read until it
pub closing_parenthesis_ends : (i : Input) → sees RightParenthesis i ≡ true → Ends i
unfolding same_kind
closing_parenthesis_ends i e = passes_not (λ k. same_kind k RightParenthesis) goes_on refl i e

pub closing_brace_ends : (i : Input) → sees RightBrace i ≡ true → Ends i
unfolding same_kind
closing_brace_ends i e = passes_not (λ k. same_kind k RightBrace) goes_on refl i e

pub closing_stops : (closing : TokenKind) (i : Input) → sees closing i ≡ true → next_passes (more_test (Until closing)) i ≡ false
unfolding next_passes
closing_stops closing i e = by i.tokens e where
  by : (tokens : List Token) → first_passes (is_kind closing) i.source tokens ≡ true → first_passes (more_test (Until closing)) i.source tokens ≡ false
  by [] e = refl
  by (t ∷ rest) e = rw e refl
