-- What references stand for, one by one.
use Rattle.std.proofs.Common.{◌≡◌, ℕ, ◌+◌, ◌<◌, ◌≤◌, List, [], ◌∷◌, ◌++◌, Bor, Bool, true, false, cond, length, get_or, take, drop, refl, sym, ◌∙◌, ap, Contains, Option, Some, None, find}
use Rattle.std.specs.Prelude.{filter, filter_map}
use Rattle.std.specs.List.{cons_option}
use Rattle.std.proofs.lemmas.List.{append-nil, map-append, take_all}
use Rattle.std.proofs.lemmas.List.Elements.{filter-append, filter_map-append}
use Rattle.std.proofs.lemmas.List.Folds.{find-append}
use Rattle.graphql_documents.proofs.ListLemmas.{more_is, stands_mapped}
use Rattle.graphql_variables.proofs.FirstPlaceLemmas.{next_at, next_stands}
use Rattle.graphql_variables.specs.FirstPlaces.{IsNext}
use Rattle.graphql_variables.proofs.SplitLemmas.{split_at}
use Rattle.graphql_repetitions.specs.References.{nows}

-- one reference more
pub nows_more : {T : Type 0} (xs : List (Bor T)) (i : ℕ) (x : Bor T) → i < length xs → x ≡ get_or xs i x →
    nows (take (i + 1) xs) ≡ nows (take i xs) ++ x.now ∷ []
nows_more xs i x within item = ap nows (more_is xs i x within item) ∙ map-append (λ r. r.now) (take i xs) (x ∷ [])

-- all of them
pub nows_all : {T : Type 0} (xs : List (Bor T)) (i : ℕ) → length xs ≤ i → nows (take i xs) ≡ nows xs
nows_all xs i past = ap nows (take_all i xs past)

pub stands_now : {T : Type 0} (xs : List (Bor T)) (i : ℕ) (x : Bor T) → i < length xs → x ≡ get_or xs i x → Contains (nows xs) x.now
stands_now xs i x within item = stands_mapped (λ r. r.now) xs x (next_stands (next_at xs i x within item))

-- the first that passes a test is found, behind those that do not
pub found_next : {T : Type 0} (p : T → Bool) (xs : List (Bor T)) (i : ℕ) (x : Bor T) → i < length xs → x ≡ get_or xs i x →
    find p (nows (take i xs)) ≡ None → p x.now ≡ true → find p (nows xs) ≡ Some x.now
found_next {T} p xs i x within item none passes =
    let whole : nows xs ≡ nows (take i xs) ++ (x.now ∷ nows (drop (i + 1) xs)) =
    ap nows (split_at xs i x within item) ∙ map-append (λ r. r.now) (take i xs) (x ∷ drop (i + 1) xs) in
    rw (whole, find-append p (nows (take i xs)) (x.now ∷ nows (drop (i + 1) xs)), none, passes) refl

pub not_found_next : {T : Type 0} (p : T → Bool) (xs : List (Bor T)) (i : ℕ) (x : Bor T) → i < length xs → x ≡ get_or xs i x →
    find p (nows (take i xs)) ≡ None → p x.now ≡ false → find p (nows (take (i + 1) xs)) ≡ None
not_found_next p xs i x within item none fails =
    rw (nows_more xs i x within item, find-append p (nows (take i xs)) (x.now ∷ []), none, fails) refl

-- what a reference stands for, behind those of the references before it
pub next_now : {T : Type 0} (xs : List (Bor T)) (i : ℕ) (x : Bor T) → i < length xs → x ≡ get_or xs i x → IsNext (nows xs) (nows (take i xs)) x.now
next_now xs i x within item = record {
  after = nows (drop (i + 1) xs);
  split = ap nows (split_at xs i x within item) ∙ map-append (λ r. r.now) (take i xs) (x ∷ drop (i + 1) xs);
}

-- what passes over the last of a list
pub passed_over : {X Y : Type 0} (h : X → Option Y) (xs : List X) (x : X) (ys : List Y) → h x ≡ None → ys ≡ filter_map h xs → ys ≡ filter_map h (xs ++ x ∷ [])
passed_over h xs x ys none e =
    e ∙ sym (append-nil (filter_map h xs)) ∙ ap (λ o. filter_map h xs ++ cons_option o []) (sym none) ∙ sym (filter_map-append h xs (x ∷ []))

-- what takes the last of a list
pub taken : {X Y : Type 0} (h : X → Option Y) (xs : List X) (x : X) (y : Bor Y) (ys zs : List (Bor Y)) → zs ≡ ys ++ y ∷ [] → h x ≡ Some y.now →
    nows ys ≡ filter_map h xs → nows zs ≡ filter_map h (xs ++ x ∷ [])
taken h xs x y ys zs is some e =
    ap nows is ∙ map-append (λ r. r.now) ys (y ∷ []) ∙ ap (λ l. l ++ y.now ∷ []) e ∙
    ap (λ o. filter_map h xs ++ cons_option o []) (sym some) ∙ sym (filter_map-append h xs (x ∷ []))

pub not_kept : {X : Type 0} (p : X → Bool) (xs : List X) (x : X) (ys : List X) → p x ≡ false → ys ≡ filter p xs → ys ≡ filter p (xs ++ x ∷ [])
not_kept p xs x ys fails e =
    e ∙ sym (append-nil (filter p xs)) ∙ ap (λ b. filter p xs ++ cond b (x ∷ []) []) (sym fails) ∙ sym (filter-append p xs (x ∷ []))

pub kept_last : {X : Type 0} (p : X → Bool) (xs : List X) (x : Bor X) (ys zs : List (Bor X)) → p x.now ≡ true → zs ≡ ys ++ x ∷ [] →
    nows ys ≡ filter p xs → nows zs ≡ filter p (xs ++ x.now ∷ [])
kept_last p xs x ys zs passes is e =
    ap nows is ∙ map-append (λ r. r.now) ys (x ∷ []) ∙ ap (λ l. l ++ x.now ∷ []) e ∙
    ap (λ b. filter p xs ++ cond b (x.now ∷ []) []) (sym passes) ∙ sym (filter-append p xs (x.now ∷ []))

-- the same of what stands next in a list
module _ {X Y : Type 0} (h : X → Option Y) (xs : List X) (i : ℕ) (x : X) (within : i < length xs) (item : x ≡ get_or xs i x) where
  pub passed_over_next : (ys : List Y) → h x ≡ None → ys ≡ filter_map h (take i xs) → ys ≡ filter_map h (take (i + 1) xs)
  passed_over_next ys none e = passed_over h (take i xs) x ys none e ∙ ap (filter_map h) (sym (more_is xs i x within item))

  pub taken_next : (y : Bor Y) (ys zs : List (Bor Y)) → zs ≡ ys ++ y ∷ [] → h x ≡ Some y.now →
      nows ys ≡ filter_map h (take i xs) → nows zs ≡ filter_map h (take (i + 1) xs)
  taken_next y ys zs is some e = taken h (take i xs) x y ys zs is some e ∙ ap (filter_map h) (sym (more_is xs i x within item))
