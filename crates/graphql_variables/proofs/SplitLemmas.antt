-- A list about one of its elements, and the first that passes a test.
use Rattle.std.proofs.Common.{◌≡◌, ℕ, ◌+◌, ◌<◌, List, [], ◌∷◌, ◌++◌, Bool, true, false, Some, None, find, length, get_or, take, drop, refl, sym, ap, ◌∙◌}
use Rattle.std.specs.Option.{option_or}
use Rattle.std.proofs.lemmas.List.{take-append-drop, drop_more}
use Rattle.std.proofs.lemmas.List.Folds.{find-append}
use Rattle.graphql_documents.proofs.ListLemmas.{more_is}

-- what is before it, it, and what is behind it
pub split_at : {X : Type 0} (xs : List X) (i : ℕ) (x : X) → i < length xs → x ≡ get_or xs i x → xs ≡ take i xs ++ x ∷ drop (i + 1) xs
split_at xs i x within item =
    sym (take-append-drop i xs) ∙ ap (λ l. take i xs ++ l) (drop_more xs i x within ∙ ap (λ y. y ∷ drop (i + 1) xs) (sym item))

-- the first element that passes a test that none before it passes
pub find_first : {X : Type 0} (p : X → Bool) (xs : List X) (i : ℕ) (x : X) → i < length xs → x ≡ get_or xs i x →
    find p (take i xs) ≡ None → p x ≡ true → find p xs ≡ Some x
find_first p xs i x within item missed passes =
    ap (find p) (split_at xs i x within item) ∙ find-append p (take i xs) (x ∷ drop (i + 1) xs) ∙
    ap (λ o. option_or o (find p (x ∷ drop (i + 1) xs))) missed ∙ rw passes refl

-- one element more that does not pass
pub find_later : {X : Type 0} (p : X → Bool) (xs : List X) (i : ℕ) (x : X) → i < length xs → x ≡ get_or xs i x →
    find p (take i xs) ≡ None → p x ≡ false → find p (take (i + 1) xs) ≡ None
find_later p xs i x within item missed fails =
    ap (find p) (more_is xs i x within item) ∙ find-append p (take i xs) (x ∷ []) ∙
    ap (λ o. option_or o (find p (x ∷ []))) missed ∙ rw fails refl
