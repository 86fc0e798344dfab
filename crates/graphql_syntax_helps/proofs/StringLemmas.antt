-- Strings that are no tokens, one byte after another.
use Rattle.std.proofs.Common.{◌≡◌, ◌∙◌, ◌<◌, ◌+◌, ℕ, Bool, true, false, List, [], ◌∷◌, ◌++◌, ap, append_assoc, drop, get_or, length, refl, subst, sym, take}
use Rattle.std.specs.Prelude.{◌==◌, if◌then◌else◌}
use Rattle.std.proofs.lemmas.Bool.{eqb-true}
use Rattle.std.proofs.lemmas.List.{drop_more, take-append-drop, take_more}
use Rattle.graphql_syntax_helps.specs.SyntaxHelps.{HasEscape, ends_line, is_open}

-- the first i bytes of a string were gone through
module _ (inside : List ℕ) (i : ℕ) (d : ℕ) (within : i < length inside) where
  abbrev pub next : ℕ
  next = get_or inside i d

  -- a backslash before the next byte makes an escape of both
  pub escape_here : (before : List ℕ) → take i inside ≡ before ++ 92 ∷ [] → HasEscape inside next
  escape_here before ends = (
    before,
    drop (i + 1) inside,
    sym (take-append-drop i inside) ∙ ap (λ l. l ++ drop i inside) ends ∙ append_assoc before (92 ∷ []) (drop i inside) ∙
        ap (λ l. before ++ 92 ∷ l) (drop_more inside i d within),
  )

  -- the byte after a backslash is gone past
  pub past_escape : false ≡ ends_line next → is_open false inside ≡ is_open true (drop i inside) → is_open false inside ≡ is_open false (drop (i + 1) inside)
  past_escape inner is =
      is ∙ ap (is_open true) (drop_more inside i d within) ∙
      ap (λ b. if b then true else is_open false (drop (i + 1) inside)) (sym inner)

  -- another byte is gone past, if it is no quote
  pub past_byte : false ≡ ends_line next → (next == 34) ≡ false → is_open false inside ≡ is_open false (drop i inside) →
      is_open false inside ≡ is_open (next == 92) (drop (i + 1) inside)
  past_byte inner other is =
      is ∙ ap (is_open false) (drop_more inside i d within) ∙
      ap (λ b. if b then true else (if next == 34 then false else is_open (next == 92) (drop (i + 1) inside))) (sym inner) ∙
      ap (λ b. if b then false else is_open (next == 92) (drop (i + 1) inside)) other

  -- a backslash is the last of the bytes that are gone past
  pub escape_begins : (next == 92) ≡ true → (before : List ℕ) × (take (i + 1) inside ≡ before ++ 92 ∷ [])
  escape_begins is = (take i inside, take_more inside i d within ∙ ap (λ b. take i inside ++ b ∷ []) (eqb-true next 92 is))

  -- an escape by a code is in the string
  pub code_here : (before : List ℕ) → take i inside ≡ before ++ 92 ∷ [] → (next == 117) ≡ true → HasEscape inside 117
  code_here before ends is = subst (HasEscape inside) (eqb-true next 117 is) (escape_here before ends)
