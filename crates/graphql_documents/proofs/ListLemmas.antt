-- What is in a list, in what a map makes of it, and in what a filter keeps.
use Rattle.std.proofs.Common.{◌≡◌, Bool, true, false, cond, ℕ, ◌+◌, ◌<◌, List, [], ◌∷◌, map, refl, sym, ◌∙◌, ap, subst, All, Contains, arith, ◌++◌, length, get_or, take}
use Rattle.std.proofs.lemmas.List.{append_assoc, take_more}
use Rattle.std.specs.Prelude.{Option, Some, None, filter, filter_map, flat_map}
use Rattle.std.specs.List.{cons_option}
use Rattle.std.proofs.lemmas.List.Elements.{All-nil, All-cons, All-head, All-tail, All-contains, All-contains_itself, All-map, All-weaker, Contains-append_right, Contains-append_left, Contains-push}

pub stands_first : {X : Type 0} (x : X) (xs : List X) → Contains (x ∷ xs) x
stands_first x xs = (0, omega arith, refl)

pub stands_behind : {X : Type 0} (y : X) (xs : List X) (x : X) → Contains xs x → Contains (y ∷ xs) x
stands_behind y xs x in' = Contains-append_right (y ∷ []) xs x in'

-- nothing is in an empty list
pub none_stands : {X : Type 0} (x : X) → ¬ Contains [] x
none_stands x in' = omega (arith, in'.1)

-- a list of one has nothing else
pub only_one : {X : Type 0} (x y : X) → Contains (x ∷ []) y → y ≡ x
only_one x y in' = All-contains (λ z. z ≡ x) (x ∷ []) y (All-cons (λ z. z ≡ x) x [] refl (All-nil (λ z. z ≡ x))) in'

-- what is true of all that is in a list
pub each_standing : {X : Type 0} (P : X → Type 0) (xs : List X) → ((x : X) → Contains xs x → P x) → All P xs
each_standing P xs h = All-weaker (Contains xs) P h xs (All-contains_itself xs)

all_mapped : {X Y : Type 0} (f : X → Y) (xs : List X) → All (λ x. Contains (map f xs) (f x)) xs
all_mapped f [] = All-nil (λ x. Contains (map f []) (f x))
all_mapped {X} f (y ∷ ys) =
    let P = λ (x : X). Contains (f y ∷ map f ys) (f x) in
    All-cons P y ys (stands_first (f y) (map f ys))
    (All-weaker (λ x. Contains (map f ys) (f x)) P (λ x. stands_behind (f y) (map f ys) (f x)) ys (all_mapped f ys))

pub stands_mapped : {X Y : Type 0} (f : X → Y) (xs : List X) (x : X) → Contains xs x → Contains (map f xs) (f x)
stands_mapped f xs x in' = All-contains (λ x. Contains (map f xs) (f x)) xs x (all_mapped f xs) in'

-- what a map made is made of something
pub made_of : {X Y : Type 0} (f : X → Y) (xs : List X) (y : Y) → Contains (map f xs) y → (x : X) × Contains xs x × (f x ≡ y)
made_of {X} {Y} f xs y in' =
    let P = λ (y : Y). (x : X) × Contains xs x × (f x ≡ y) in
    All-contains P (map f xs) y (All-map P f xs (each_standing (λ x. P (f x)) xs (λ x in''. (x, in'', refl)))) in'

still_there : {X : Type 0} (b : Bool) (y : X) (ys : List X) (x : X) → Contains ys x → Contains (cond b (y ∷ ys) ys) x
still_there true y ys x in' = stands_behind y ys x in'
still_there false y ys x in' = in'

all_kept : {X : Type 0} (p : X → Bool) (xs : List X) → All (λ x. p x ≡ true → Contains (filter p xs) x) xs
all_kept p [] = All-nil (λ x. p x ≡ true → Contains (filter p []) x)
all_kept {X} p (y ∷ ys) =
    let P = λ (x : X). p x ≡ true → Contains (filter p (y ∷ ys)) x in
    All-cons P y ys (λ e. rw e (stands_first y (filter p ys)))
    (All-weaker (λ x. p x ≡ true → Contains (filter p ys) x) P (λ x h e. still_there (p y) y (filter p ys) x (h e)) ys (all_kept p ys))

-- what passes the test stays
pub kept_by_filter : {X : Type 0} (p : X → Bool) (xs : List X) (x : X) → Contains xs x → p x ≡ true → Contains (filter p xs) x
kept_by_filter p xs x in' = All-contains (λ x. p x ≡ true → Contains (filter p xs) x) xs x (all_kept p xs) in'

-- a filter that all pass keeps all
pub all_pass : {X : Type 0} (p : X → Bool) (xs : List X) → All (λ x. p x ≡ true) xs → filter p xs ≡ xs
all_pass p [] all = refl
all_pass p (x ∷ xs) all =
    let here : p x ≡ true = All-head (λ x. p x ≡ true) x xs all in
    rw here (ap (λ l. x ∷ l) (all_pass p xs (All-tail (λ x. p x ≡ true) x xs all)))

-- what a map that may leave out made is made of something
shown_by : {X Y : Type 0} (h : X → Option Y) (x : X) (rest : List Y) (P : Y → Type 0) (o : Option Y) → h x ≡ o →
    ((y : Y) → h x ≡ Some y → P y) → All P rest → All P (cons_option o rest)
shown_by h x rest P None e here all = all
shown_by h x rest P (Some y) e here all = All-cons P y rest (here y e) all

all_made : {X Y : Type 0} (h : X → Option Y) (xs : List X) → All (λ y. (x : X) × Contains xs x × (h x ≡ Some y)) (filter_map h xs)
all_made h [] = All-nil (λ y. (x : _) × Contains [] x × (h x ≡ Some y))
all_made {X} {Y} h (x ∷ xs) =
    let P = λ (y : Y). (z : X) × Contains (x ∷ xs) z × (h z ≡ Some y) in
    shown_by h x (filter_map h xs) P (h x) refl (λ y e. (x, stands_first x xs, e))
    (All-weaker (λ y. (z : X) × Contains xs z × (h z ≡ Some y)) P (λ y made. (made.0, stands_behind x xs made.0 made.1, made.2)) (filter_map h xs) (all_made h xs))

pub made_by : {X Y : Type 0} (h : X → Option Y) (xs : List X) (y : Y) → Contains (filter_map h xs) y → (x : X) × Contains xs x × (h x ≡ Some y)
made_by {X} h xs y in' = All-contains (λ y. (x : X) × Contains xs x × (h x ≡ Some y)) (filter_map h xs) y (all_made h xs) in'

behind_option : {Y : Type 0} (o : Option Y) (rest : List Y) (y : Y) → Contains rest y → Contains (cons_option o rest) y
behind_option None rest y in' = in'
behind_option (Some z) rest y in' = stands_behind z rest y in'

all_mapped_by : {X Y : Type 0} (h : X → Option Y) (xs : List X) → All (λ x. (y : Y) → h x ≡ Some y → Contains (filter_map h xs) y) xs
all_mapped_by h [] = All-nil (λ x. (y : _) → h x ≡ Some y → Contains (filter_map h []) y)
all_mapped_by {X} {Y} h (x ∷ xs) =
    let P = λ (z : X). (y : Y) → h z ≡ Some y → Contains (cons_option (h x) (filter_map h xs)) y in
    All-cons P x xs (λ y e. rw e (stands_first y (filter_map h xs)))
    (All-weaker (λ z. (y : Y) → h z ≡ Some y → Contains (filter_map h xs) y) P (λ z made y e. behind_option (h x) (filter_map h xs) y (made y e)) xs (all_mapped_by h xs))

-- what the map makes of an element is in what it makes
pub kept_by_map : {X Y : Type 0} (h : X → Option Y) (xs : List X) (x : X) (y : Y) → Contains xs x → h x ≡ Some y → Contains (filter_map h xs) y
kept_by_map {X} {Y} h xs x y in' e = All-contains (λ x. (y : Y) → h x ≡ Some y → Contains (filter_map h xs) y) xs x (all_mapped_by h xs) in' y e

all_flat : {X Y : Type 0} (f : X → List Y) (xs : List X) → All (λ x. (y : Y) → Contains (f x) y → Contains (flat_map f xs) y) xs
all_flat {X} {Y} f [] = All-nil (λ (x : X). (y : Y) → Contains (f x) y → Contains (flat_map f []) y)
all_flat {X} {Y} f (x ∷ xs) =
    let P = λ (z : X). (y : Y) → Contains (f z) y → Contains (f x ++ flat_map f xs) y in
    All-cons P x xs (λ y in'. Contains-append_left (f x) (flat_map f xs) y in')
    (All-weaker (λ z. (y : Y) → Contains (f z) y → Contains (flat_map f xs) y) P (λ z made y in'. Contains-append_right (f x) (flat_map f xs) y (made y in')) xs (all_flat f xs))

-- what is made of an element is in what is made of all
pub stands_flat : {X Y : Type 0} (f : X → List Y) (xs : List X) (x : X) (y : Y) → Contains xs x → Contains (f x) y → Contains (flat_map f xs) y
stands_flat {X} {Y} f xs x y in' made = All-contains (λ (x : X). (y : Y) → Contains (f x) y → Contains (flat_map f xs) y) xs x (all_flat f xs) in' y made

-- an element more of a list
pub more_is : {X : Type 0} (xs : List X) (i : ℕ) (x : X) → i < length xs → x ≡ get_or xs i x → take (i + 1) xs ≡ take i xs ++ x ∷ []
more_is xs i x within item = take_more xs i x within ∙ ap (λ y. take i xs ++ y ∷ []) (sym item)

-- each part of a list has what the whole has
pub All-append_left : {X : Type 0} (P : X → Type 0) (xs ys : List X) → All P (xs ++ ys) → All P xs
All-append_left P xs ys all =
    All-weaker (Contains xs) P (λ x in'. All-contains P (xs ++ ys) x all (Contains-append_left xs ys x in')) xs (All-contains_itself xs)

pub All-append_right : {X : Type 0} (P : X → Type 0) (xs ys : List X) → All P (xs ++ ys) → All P ys
All-append_right P xs ys all =
    All-weaker (Contains ys) P (λ x in'. All-contains P (xs ++ ys) x all (Contains-append_right xs ys x in')) ys (All-contains_itself ys)

-- the next of what is left, and what was done then
pub stands_next : {X : Type 0} (all done left rest : List X) (x : X) → all ≡ done ++ left → left ≡ x ∷ rest → Contains all x
stands_next all done left rest x e next =
    subst (λ l. Contains l x) (sym (e ∙ ap (λ l. done ++ l) next ∙ sym (append_assoc done (x ∷ []) rest)))
    (Contains-append_left (done ++ x ∷ []) rest x (Contains-push done x))

pub done_next : {X : Type 0} (all done left rest : List X) (x : X) → all ≡ done ++ left → left ≡ x ∷ rest → all ≡ (done ++ x ∷ []) ++ rest
done_next all done left rest x e next = e ∙ ap (λ l. done ++ l) next ∙ sym (append_assoc done (x ∷ []) rest)
