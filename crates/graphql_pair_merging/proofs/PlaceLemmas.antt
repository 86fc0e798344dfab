-- What is at a number in a list.
use Rattle.std.proofs.Common.{◌≡◌, ℕ, zero, suc, List, [], ◌∷◌, ◌++◌, Option, Some, length, map, refl, ap, ◌∙◌, Contains}
use Rattle.std.specs.Prelude.{slice_get}
use Rattle.std.specs.Option.{option_map}
use Rattle.std.proofs.lemmas.Option.{get_or_from_slice_get, slice_get-get_or, slice_get-map, slice_get_within}

pub stands_at : {X : Type 0} (xs : List X) (i : ℕ) (x : X) → slice_get xs i ≡ Some x → Contains xs x
stands_at xs i x is = (i, slice_get_within xs i x is, get_or_from_slice_get xs i x x is)

pub place_of : {X : Type 0} (xs : List X) (x : X) → Contains xs x → (i : ℕ) × (slice_get xs i ≡ Some x)
place_of xs x (i, within, is) = (i, slice_get-get_or xs i x within ∙ ap (λ y. Some y) is)

-- two at one number are one
pub one_at : {X : Type 0} (o : Option X) (x y : X) → o ≡ Some x → o ≡ Some y → x ≡ y
one_at o x y is also = cc

-- at a number of a mapped list is what was made of one
pub made_at : {X Y : Type 0} (f : X → Y) (xs : List X) (i : ℕ) (y : Y) → slice_get (map f xs) i ≡ Some y → (x : X) × (slice_get xs i ≡ Some x) × (f x ≡ y)
made_at f [] i y is = absurd (let no : ⊥ = cc in no)
made_at f (x ∷ xs) zero y is = (x, refl, one_at (Some (f x)) (f x) y refl is)
made_at f (x ∷ xs) (suc i) y is = made_at f xs i y is

pub mapped_at : {X Y : Type 0} (f : X → Y) (xs : List X) (i : ℕ) (x : X) → slice_get xs i ≡ Some x → slice_get (map f xs) i ≡ Some (f x)
mapped_at f xs i x is = slice_get-map f xs i ∙ ap (option_map f) is

-- what is at a number stays there when more comes behind
pub still_at : {X : Type 0} (xs more : List X) (i : ℕ) (x : X) → slice_get xs i ≡ Some x → slice_get (xs ++ more) i ≡ Some x
still_at [] more i x is = absurd (let no : ⊥ = cc in no)
still_at (y ∷ ys) more zero x is = is
still_at (y ∷ ys) more (suc i) x is = still_at ys more i x is

-- what comes next is at the length
pub next_at : {X : Type 0} (xs : List X) (x : X) (more : List X) → slice_get (xs ++ x ∷ more) (length xs) ≡ Some x
next_at [] x more = refl
next_at (y ∷ ys) x more = next_at ys x more
