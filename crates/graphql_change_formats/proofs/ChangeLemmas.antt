-- Changes that are written one after another.
use Rattle.std.proofs.Common.{◌≡◌, ◌∙◌, ◌<◌, ◌+◌, ℕ, List, [], ◌∷◌, ◌++◌, ap, append_assoc, get_or, length, map, refl, subst, sym, take}
use Rattle.std.proofs.lemmas.List.{append-nil, take_more}
use Rattle.json.specs.Token.{Token}
use Rattle.graphql_change_formats.specs.ChangeJson.{AreChanges, IsChange, change_object, none, one_more}
use Rattle.graphql_change_formats.specs.declared.shown_changes.ComparedTexts.{ComparedTexts}
use Rattle.graphql_change_formats.specs.declared.shown_changes.ShownChange.{ShownChange}

-- behind some tokens are those, and then these
pub joined : (t u v those these : List Token) → u ≡ t ++ those → v ≡ u ++ these → v ≡ t ++ (those ++ these)
joined t u v those these e f = f ∙ ap (λ l. l ++ these) e ∙ append_assoc t those these

-- nothing is written of no changes
pub none_written : (texts : ComparedTexts) (t : List Token) → (more : List Token) × AreChanges texts [] more × (t ≡ t ++ more)
none_written texts t = ([], none, sym (append-nil t))

-- what was written of the first i, and of the next one
pub next_written : (texts : ComparedTexts) (xs : List ShownChange) (i : ℕ) (x : ShownChange) (t u v : List Token) → i < length xs → x ≡ get_or xs i x →
    (more : List Token) × AreChanges texts (take i xs) more × (u ≡ t ++ more) →
    (more : List Token) × IsChange texts x more × (v ≡ u ++ more) →
    (more : List Token) × AreChanges texts (take (i + 1) xs) more × (v ≡ t ++ more)
next_written texts xs i x t u v within is first more =
    let name = more.1.0 in
    let message = more.1.1 in
    let object = change_object texts x name message in
    let whole : take (i + 1) xs ≡ take i xs ++ x ∷ [] = take_more xs i x within ∙ ap (λ y. take i xs ++ y ∷ []) (sym is) in
    let written : v ≡ u ++ object = more.2 ∙ ap (λ l. u ++ l) more.1.2 in (
      first.0 ++ object,
      subst (λ l. AreChanges texts l (first.0 ++ object)) (sym whole) (one_more x name message first.1),
      joined t u v first.0 object first.2 written,
    )

map-end : {X : Type 0} (f : X → Token) (xs : List X) (x : X) → map f (xs ++ x ∷ []) ≡ map f xs ++ f x ∷ []
map-end f [] x = refl
map-end f (y ∷ ys) x = ap (λ l. f y ∷ l) (map-end f ys x)

-- one token for each of the first i, and for the next one
pub one_token_more : {X : Type 0} (f : X → Token) (xs : List X) (i : ℕ) (x : X) (t u v : List Token) → i < length xs → x ≡ get_or xs i x →
    u ≡ t ++ map f (take i xs) → v ≡ u ++ f x ∷ [] → v ≡ t ++ map f (take (i + 1) xs)
one_token_more f xs i x t u v within is first more =
    rw (take_more xs i x within, ← is, map-end f (take i xs) x) (joined t u v (map f (take i xs)) (f x ∷ []) first more)
