-- Lists that are built item by item.
use Rattle.std.proofs.Common.{◌≡◌, ℕ, List, [], ◌∷◌, ◌++◌, ◌+◌, ◌<◌, length, get_or, take}
use Rattle.std.specs.List.{AllZip}
use Rattle.std.proofs.lemmas.List.{take_more}

pub zip_pushed : {A B : Type 0} (R : A → B → Type 0) (xs : List A) (ys : List B) (x : A) (y : B) →
    AllZip R xs ys → R x y → AllZip R (xs ++ x ∷ []) (ys ++ y ∷ [])
zip_pushed R [] [] x y all r = (r, tt)
zip_pushed R [] (b ∷ ys) x y all r = absurd all
zip_pushed R (a ∷ xs) [] x y all r = absurd all
zip_pushed R (a ∷ xs) (b ∷ ys) x y all r = (all.0, zip_pushed R xs ys x y all.1 r)

-- what was built of the first i is right, and so is the next: then so is what was built of the first i + 1
pub zip_more : {A B : Type 0} (R : A → B → Type 0) (xs : List A) (i : ℕ) (x : A) (ys more : List B) (y : B) →
    i < length xs → x ≡ get_or xs i x → AllZip R (take i xs) ys → R x y → more ≡ ys ++ y ∷ [] → AllZip R (take (i + 1) xs) more
zip_more R xs i x ys more y within is all r grown =
    rw (grown, take_more xs i x within, ← is) (zip_pushed R (take i xs) ys x y all r)
