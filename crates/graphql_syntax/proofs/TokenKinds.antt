-- Kinds of tokens that are the same are one.
use Rattle.std.proofs.Common.{◌≡◌, true, refl}
use Rattle.graphql_tokens.specs.declared.token.TokenKind.{TokenKind}
use Rattle.graphql_tokens.specs.declared.token.TokenKind.TheVariants.{ExclamationMark, Dollar, Ampersand, LeftParenthesis, RightParenthesis, Spread, Colon, Equals, At, LeftBracket, RightBracket, LeftBrace, VerticalBar, RightBrace, Name, IntValue, FloatValue, StringValue, BlockString}
use Rattle.graphql_syntax.specs.Inputs.{same_kind}

pub same_kinds : (a b : TokenKind) → same_kind a b ≡ true → a ≡ b
unfolding same_kind
same_kinds ExclamationMark ExclamationMark e = refl
same_kinds ExclamationMark _ e = absurd (let h : ⊥ = cc in h)
same_kinds Dollar Dollar e = refl
same_kinds Dollar _ e = absurd (let h : ⊥ = cc in h)
same_kinds Ampersand Ampersand e = refl
same_kinds Ampersand _ e = absurd (let h : ⊥ = cc in h)
same_kinds LeftParenthesis LeftParenthesis e = refl
same_kinds LeftParenthesis _ e = absurd (let h : ⊥ = cc in h)
same_kinds RightParenthesis RightParenthesis e = refl
same_kinds RightParenthesis _ e = absurd (let h : ⊥ = cc in h)
same_kinds Spread Spread e = refl
same_kinds Spread _ e = absurd (let h : ⊥ = cc in h)
same_kinds Colon Colon e = refl
same_kinds Colon _ e = absurd (let h : ⊥ = cc in h)
same_kinds Equals Equals e = refl
same_kinds Equals _ e = absurd (let h : ⊥ = cc in h)
same_kinds At At e = refl
same_kinds At _ e = absurd (let h : ⊥ = cc in h)
same_kinds LeftBracket LeftBracket e = refl
same_kinds LeftBracket _ e = absurd (let h : ⊥ = cc in h)
same_kinds RightBracket RightBracket e = refl
same_kinds RightBracket _ e = absurd (let h : ⊥ = cc in h)
same_kinds LeftBrace LeftBrace e = refl
same_kinds LeftBrace _ e = absurd (let h : ⊥ = cc in h)
same_kinds VerticalBar VerticalBar e = refl
same_kinds VerticalBar _ e = absurd (let h : ⊥ = cc in h)
same_kinds RightBrace RightBrace e = refl
same_kinds RightBrace _ e = absurd (let h : ⊥ = cc in h)
same_kinds Name Name e = refl
same_kinds Name _ e = absurd (let h : ⊥ = cc in h)
same_kinds IntValue IntValue e = refl
same_kinds IntValue _ e = absurd (let h : ⊥ = cc in h)
same_kinds FloatValue FloatValue e = refl
same_kinds FloatValue _ e = absurd (let h : ⊥ = cc in h)
same_kinds StringValue StringValue e = refl
same_kinds StringValue _ e = absurd (let h : ⊥ = cc in h)
same_kinds BlockString BlockString e = refl
same_kinds BlockString _ e = absurd (let h : ⊥ = cc in h)
