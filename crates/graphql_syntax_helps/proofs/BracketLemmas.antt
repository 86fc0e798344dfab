-- The brackets that are open, one token after another.
use Rattle.std.proofs.Common.{◌≡◌, ◌∙◌, ◌<◌, ◌≤◌, ◌+◌, ℕ, Bool, true, false, List, [], ◌∷◌, ◌++◌, ap, append-nil, filter, get_or, length, nat_lt, refl, reverse, sym, take}
use Rattle.std.specs.Prelude.{if◌then◌else◌}
use Rattle.std.proofs.lemmas.Bool.{le-ltb, lt-ltb}
use Rattle.std.proofs.lemmas.List.{take_more}
use Rattle.graphql_tokens.specs.declared.token.Token.{Token}
use Rattle.graphql_syntax_helps.specs.Brackets.{open_after, open_with}

open_more : (unclosed xs : List Token) (t : Token) → open_after unclosed (xs ++ t ∷ []) ≡ open_with (open_after unclosed xs) t
open_more unclosed [] t = refl
open_more unclosed (x ∷ xs) t = open_more (open_with unclosed x) xs t

kept_or_not : {X : Type 0} (b : Bool) (x : X) (us vs more : List X) → us ≡ vs ++ more → (if b then x ∷ us else us) ≡ (if b then x ∷ vs else vs) ++ more
kept_or_not true x us vs more e = ap (λ l. x ∷ l) e
kept_or_not false x us vs more e = e

filter_pushed : {X : Type 0} (p : X → Bool) (xs : List X) (t : X) → filter p (xs ++ t ∷ []) ≡ filter p xs ++ filter p (t ∷ [])
filter_pushed p [] t = refl
filter_pushed p (x ∷ xs) t = kept_or_not (p x) x (filter p (xs ++ t ∷ [])) (filter p xs) (filter p (t ∷ [])) (filter_pushed p xs t)

-- the brackets that are open after those of the first i tokens that are before a byte
module _ (at : ℕ) (tokens : List Token) (i : ℕ) (d : Token) (within : i < length tokens) (old : List Token)
    (kept : reverse old ≡ open_after [] (filter (λ t. nat_lt t.start at) (take i tokens))) where
  abbrev pub before : List Token
  before = filter (λ t. nat_lt t.start at) (take i tokens)

  abbrev pub next : Token
  next = get_or tokens i d

  more : filter (λ t. nat_lt t.start at) (take (i + 1) tokens) ≡ before ++ (if nat_lt next.start at then next ∷ [] else [])
  more = ap (filter (λ t. nat_lt t.start at)) (take_more tokens i d within) ∙ filter_pushed (λ t. nat_lt t.start at) (take i tokens) next

  -- one more token is before the byte
  pub counted : (new : List Token) → next.start < at → reverse new ≡ open_with (reverse old) next →
      reverse new ≡ open_after [] (filter (λ t. nat_lt t.start at) (take (i + 1) tokens))
  counted new low is =
      is ∙ ap (λ u. open_with u next) kept ∙ sym (open_more [] before next) ∙
      ap (open_after []) (sym (more ∙ ap (λ b. before ++ (if b then next ∷ [] else [])) (lt-ltb next.start at low)))

  -- the next token is not before the byte
  pub passed : at ≤ next.start → reverse old ≡ open_after [] (filter (λ t. nat_lt t.start at) (take (i + 1) tokens))
  passed high =
      kept ∙ ap (open_after []) (sym (more ∙ ap (λ b. before ++ (if b then next ∷ [] else [])) (le-ltb next.start at high) ∙ append-nil before))
