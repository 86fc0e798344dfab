-- Lists of references, and what they refer to.
use Rattle.std.proofs.Common.{◌≡◌, ◌↔◌, ℕ, ◌+◌, ◌<◌, List, [], ◌∷◌, ◌++◌, Bor, length, get_or, map, take, drop, sym, ◌∙◌, ap, subst, All, Contains}
use Rattle.std.proofs.lemmas.List.{map-append}
use Rattle.std.proofs.lemmas.List.Elements.{All-cons, All-contains, All-contains_itself, All-head, All-map, All-nil, All-tail, Contains-get_or}
use Rattle.graphql_documents.proofs.ListLemmas.{more_is}
use Rattle.graphql_variables.specs.FirstPlaces.{IsNext}
use Rattle.graphql_variables.proofs.SplitLemmas.{split_at}

-- what references refer to
abbrev pub referred : {X : Type 0} → List (Bor X) → List X
referred xs = map (λ x. x.now) xs

module _ {X : Type 0} (xs : List (Bor X)) (i : ℕ) (x : Bor X) (within : i < length xs) (item : x ≡ get_or xs i x) where
  -- one more of them
  pub referred_more : referred (take (i + 1) xs) ≡ referred (take i xs) ++ x.now ∷ []
  referred_more = ap (λ (l : List (Bor X)). referred l) (more_is xs i x within item) ∙ map-append (λ y. y.now) (take i xs) (x ∷ [])

  -- what is before it and behind it
  pub referred_next : IsNext (referred xs) (referred (take i xs)) x.now
  referred_next = record {
    after = referred (drop (i + 1) xs);
    split = ap (λ (l : List (Bor X)). referred l) (split_at xs i x within item) ∙ map-append (λ y. y.now) (take i xs) (x ∷ drop (i + 1) xs);
  }

-- what holds of each reference holds of what they refer to
pub all_referred : {X : Type 0} (P : X → Type 0) (xs : List (Bor X)) → All (λ b. P b.now) xs ↔ All P (map (λ b. b.now) xs)
all_referred {X = X} P xs = (All-map P (λ b. b.now) xs, back xs) where
  back : (ys : List (Bor X)) → All P (map (λ b. b.now) ys) → All (λ b. P b.now) ys
  back [] all = All-nil _
  back (y ∷ ys) all = All-cons (λ b. P b.now) y ys (All-head P y.now (map (λ b. b.now) ys) all) (back ys (All-tail P y.now (map (λ b. b.now) ys) all))

-- what one of them refers to is among what they refer to
pub stands_referred : {X : Type 0} (xs : List (Bor X)) (i : ℕ) (x : Bor X) → i < length xs → x ≡ get_or xs i x → Contains (map (λ b. b.now) xs) x.now
stands_referred xs i x within is =
    let l = map (λ b. b.now) xs in
    All-contains (λ b. Contains l b.now) xs x ((all_referred (Contains l) xs).1 (All-contains_itself l)) (subst (Contains xs) (sym is) (Contains-get_or xs i x within))
