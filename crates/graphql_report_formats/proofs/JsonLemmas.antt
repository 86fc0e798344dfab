-- Tokens that are appended one after another.
use Rattle.std.proofs.Common.{◌≡◌, ◌∙◌, ◌<◌, ◌+◌, ℕ, List, [], ◌∷◌, ◌++◌, ap, append_assoc, flat_map, get_or, length, sym, take}
use Rattle.std.proofs.lemmas.List.{append-nil, take_more}
use Rattle.json.specs.Token.{Token}

-- behind some tokens are those, and then these
pub joined : (t u v those these : List Token) → u ≡ t ++ those → v ≡ u ++ these → v ≡ t ++ (those ++ these)
joined t u v those these e f = f ∙ ap (λ l. l ++ these) e ∙ append_assoc t those these

flat_map-end : {X : Type 0} (f : X → List Token) (xs : List X) (x : X) → flat_map f (xs ++ x ∷ []) ≡ flat_map f xs ++ f x
flat_map-end f [] x = append-nil (f x)
flat_map-end f (y ∷ ys) x = ap (λ l. f y ++ l) (flat_map-end f ys x) ∙ sym (append_assoc (f y) (flat_map f ys) (f x))

-- what was appended for the first i, and for the next one
pub one_more : {X : Type 0} (f : X → List Token) (xs : List X) (i : ℕ) (x : X) (t u v : List Token) → i < length xs → x ≡ get_or xs i x →
    u ≡ t ++ flat_map f (take i xs) → v ≡ u ++ f x → v ≡ t ++ flat_map f (take (i + 1) xs)
one_more f xs i x t u v within is first more =
    rw (take_more xs i x within, ← is, flat_map-end f (take i xs) x) (joined t u v (flat_map f (take i xs)) (f x) first more)
