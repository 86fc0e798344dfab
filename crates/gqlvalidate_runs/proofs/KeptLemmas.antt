-- What is left of a list.
use Rattle.std.proofs.Common.{◌≡◌, Bool, true, false, List, [], ◌∷◌, All, cond, filter, refl, subst}
use Rattle.std.proofs.lemmas.List.Elements.{All-nil, All-cons}

-- where no element passes a test, each fails it
pub none_passes : {X : Type 0} (p : X → Bool) → (xs : List X) → filter p xs ≡ [] → All (λ x. p x ≡ false) xs
none_passes p [] none = All-nil (λ x. p x ≡ false)
none_passes p (x ∷ xs) none = by_test (none_passes p xs) (p x) refl where
  by_test : (filter p xs ≡ [] → All (λ y. p y ≡ false) xs) → (b : Bool) → p x ≡ b → All (λ y. p y ≡ false) (x ∷ xs)
  by_test rest true is = let left : x ∷ filter p xs ≡ [] = subst (λ b. cond b (x ∷ filter p xs) (filter p xs) ≡ []) is none in cc
  by_test rest false is = All-cons (λ y. p y ≡ false) x xs is (rest (subst (λ b. cond b (x ∷ filter p xs) (filter p xs) ≡ []) is none))

-- where each element passes a test, all are left
pub each_passes : {X : Type 0} (p : X → Bool) → ((x : X) → p x ≡ true) → (xs : List X) → filter p xs ≡ xs
each_passes p passes [] = refl
each_passes p passes (x ∷ xs) = rw (passes x, each_passes p passes xs) refl
