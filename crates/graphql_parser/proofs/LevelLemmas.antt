-- Where a reader reaches, no more brackets and braces open than may be open.
use Rattle.std.proofs.Common.{◌≡◌, ℕ, zero, suc, ◌+◌, Bool, true, false, ◌⊎◌, inl, inr, List, [], ◌∷◌, ◌++◌, length, None, Some, refl, ◌∙◌, ap, arith}
use Rattle.std.proofs.lemmas.List.{append_assoc, length-append}
use Rattle.graphql_tokens.specs.declared.token.Token.{Token}
use Rattle.graphql_tokens.specs.declared.token.TokenKind.{TokenKind}
use Rattle.graphql_tokens.specs.declared.token.TokenKind.TheVariants.{LeftBracket, LeftBrace}
use Rattle.graphql_syntax.specs.Depths.{is_opening, is_closing, how_many, OpensTooDeep}
use Rattle.graphql_syntax.proofs.Locality.{level_behind, levels_left, levels_plain, levels_opening, levels_closing}

-- no kind both opens and closes
opening_not_closing : (kind : TokenKind) → is_opening kind ≡ true → is_closing kind ≡ false
opening_not_closing LeftBracket e = refl
opening_not_closing LeftBrace e = refl
opening_not_closing _ e = absurd (let b : ⊥ = cc in b)

none_left : (t : Token) (rest : List Token) → is_opening t.kind ≡ true → levels_left 0 (t ∷ rest) ≡ None
none_left t rest opens = ap (λ o. elim o [ None ↦ None | Some n ↦ levels_left n rest ]) (by t.kind opens) where
  by : (kind : TokenKind) → is_opening kind ≡ true → level_behind 0 kind ≡ None
  by kind opens = rw opens refl

either : (b : Bool) → (b ≡ true) ⊎ (b ≡ false)
either true = inl refl
either false = inr refl

-- where one more opens than may be, no level is left
levels_none : (room : ℕ) (before : List Token) (opening : Token) (after : List Token) → is_opening opening.kind ≡ true → how_many is_opening before ≡ room + how_many is_closing before →
    levels_left room (before ++ opening ∷ after) ≡ None
levels_none zero [] opening after opens n = none_left opening after opens
levels_none (suc room) [] opening after opens n = absurd (omega arith)
levels_none room (t ∷ before) opening after opens n = elim (either (is_opening t.kind)) [
  | inl one ↦ inside room (rw (one, opening_not_closing t.kind one) at n) one (λ less m. levels_none less before opening after opens m)
  | inr not_one ↦ elim (either (is_closing t.kind)) [
    | inl ends ↦ levels_closing room t (before ++ opening ∷ after) not_one ends ∙ levels_none (suc room) before opening after opens (let m = rw (not_one, ends) at n in omega arith)
    | inr plain ↦ levels_plain room t (before ++ opening ∷ after) not_one plain ∙ levels_none room before opening after opens (let m = rw (not_one, plain) at n in omega arith)
  ]
] where
  inside : (room : ℕ) → 1 + how_many is_opening before ≡ room + (0 + how_many is_closing before) → is_opening t.kind ≡ true →
      ((less : ℕ) → how_many is_opening before ≡ less + how_many is_closing before → levels_left less (before ++ opening ∷ after) ≡ None) → levels_left room (t ∷ before ++ opening ∷ after) ≡ None
  inside zero m one again = none_left t (before ++ opening ∷ after) one
  inside (suc less) m one again = levels_opening less t (before ++ opening ∷ after) one ∙ again less (omega arith)

pub not_too_deep : (depth room : ℕ) (tokens : List Token) (left : ℕ) → levels_left depth tokens ≡ Some room → OpensTooDeep depth tokens left → ⊥
not_too_deep depth room tokens left e deep =
    let opens = deep.opens in
    let none = levels_none depth deep.before deep.opening deep.after opens deep.as_many in
    let all = ap (levels_left depth) deep.all in
    let b : ⊥ = cc in b

-- a list is split in one way where what is behind has one length
pub same_front : (a b r s : List Token) → a ++ r ≡ b ++ s → length r ≡ length s → a ≡ b
same_front [] [] r s e n = refl
same_front [] (x ∷ b) r s e n = absurd (omega (arith, ap length e, length-append b s))
same_front (x ∷ a) [] r s e n = absurd (omega (arith, ap length e, length-append a r))
same_front (x ∷ a) (y ∷ b) r s e n =
    let first : x ≡ y = cc in
    let others : a ++ r ≡ b ++ s = cc in
    ap (λ z. z ∷ a) first ∙ ap (λ l. y ∷ l) (same_front a b r s others n)

-- and where more tokens come
pub deep_before : (depth : ℕ) (tokens more : List Token) (left : ℕ) → OpensTooDeep depth tokens left → OpensTooDeep depth (tokens ++ more) (left + length more)
deep_before depth tokens more left deep = record {
  before = deep.before;
  opening = deep.opening;
  after = deep.after ++ more;
  all = ap (λ l. l ++ more) deep.all ∙ append_assoc deep.before (deep.opening ∷ deep.after) more;
  place = let place = deep.place in omega (arith, place, length-append deep.after more);
  opens = deep.opens;
  as_many = deep.as_many;
}
