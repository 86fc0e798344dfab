-- Parts of lists, in their order, and what holds of them because it holds of the whole; and the first element of a list that passes a test, with the
-- others.
use Rattle.std.proofs.Common.{◌≡◌, ◌⊎◌, zero, suc, Bool, true, false, cond, List, [], ◌∷◌, ◌++◌, Option, Some, arith, length, map, ap, inl, inr, refl, sym, subst}
use Rattle.std.specs.Prelude.{All, AllPairs, Any, Contains, filter, flat_map}
use Rattle.std.specs.List.{AllZip}
use Rattle.std.specs.Map.{lookup}
use Rattle.std.proofs.lemmas.List.Elements.{All-contains}
use Rattle.std.proofs.lemmas.List.Kept.{AllPairs-cons}
use Rattle.graphql_nodes.proofs.NameLemmas.{not_both, same_name_back, same_name_itself}
use Rattle.graphql_nodes.specs.Names.{AreDistinct, DifferentNames, NameText, same_name}
use Rattle.graphql_documents.proofs.ListLemmas.{each_standing, none_stands, stands_behind, stands_first, stands_mapped}

-- ==== what is in a list

pub first_or_behind : {X : Type 0} (y : X) (ys : List X) (x : X) → Contains (y ∷ ys) x → (x ≡ y) ⊎ Contains ys x
first_or_behind y ys x (zero, within, is) = inl (sym is)
first_or_behind y ys x (suc k, within, is) = inr (k, omega (arith, within), is)

pairs_head : {X : Type 0} (R : X → X → Type 0) (x : X) (xs : List X) → AllPairs R (x ∷ xs) → All (R x) xs
pairs_head R x xs all = λ k d within. all 0 (suc k) d (omega arith) (omega arith)

pairs_tail : {X : Type 0} (R : X → X → Type 0) (x : X) (xs : List X) → AllPairs R (x ∷ xs) → AllPairs R xs
pairs_tail R x xs all = λ i j d before within. all (suc i) (suc j) d (omega arith) (omega arith)

-- an element that passes the test, and the others
pub record Picked {X : Type 0} (test : X → Bool) (xs : List X) : Type 0 where
  pub one : X
  pub rest : List X
  pub there : Contains xs one
  pub passes : test one ≡ true
  pub fewer : length xs ≡ suc (length rest)
  pub kept : (x : X) → Contains rest x → Contains xs x
  pub others : (x : X) → Contains xs x → Contains rest x ⊎ (x ≡ one)

module _ {X : Type 0} (test : X → Bool) where
  picked_first : (y : X) (ys : List X) → test y ≡ true → Picked test (y ∷ ys)
  picked_first y ys passes = record {
    one = y;
    rest = ys;
    there = stands_first y ys;
    passes = passes;
    fewer = refl;
    kept = λ x c. stands_behind y ys x c;
    others = λ x c. elim (first_or_behind y ys x c) [
      | inl first ↦ inr first
      | inr behind ↦ inl behind
    ];
  }

  picked_behind : (y : X) (ys : List X) → Picked test ys → Picked test (y ∷ ys)
  picked_behind y ys p = record {
    one = p.one;
    rest = y ∷ p.rest;
    there = stands_behind y ys p.one p.there;
    passes = p.passes;
    fewer = ap suc p.fewer;
    kept = λ x c. elim (first_or_behind y p.rest x c) [
      | inl first ↦ subst (Contains (y ∷ ys)) (sym first) (stands_first y ys)
      | inr behind ↦ stands_behind y ys x (p.kept x behind)
    ];
    others = λ x c. elim (first_or_behind y ys x c) [
      | inl first ↦ inl (subst (Contains (y ∷ p.rest)) (sym first) (stands_first y p.rest))
      | inr behind ↦ elim (p.others x behind) [
        | inl other ↦ inl (stands_behind y p.rest x other)
        | inr is ↦ inr is
      ]
    ];
  }

  none_of : (y : X) (ys : List X) → test y ≡ false → ((x : X) → Contains ys x → test x ≡ false) → (x : X) → Contains (y ∷ ys) x → test x ≡ false
  none_of y ys fails none x c = elim (first_or_behind y ys x c) [
    | inl first ↦ subst (λ z. test z ≡ false) (sym first) fails
    | inr behind ↦ none x behind
  ]

  -- one passes the test, or none does
  pub pick : (xs : List X) → Picked test xs ⊎ ((x : X) → Contains xs x → test x ≡ false)
  pick [] = inr (λ x c. absurd (none_stands x c))
  pick (y ∷ ys) = by (test y) refl (pick ys) where
    by : (b : Bool) → test y ≡ b → Picked test ys ⊎ ((x : X) → Contains ys x → test x ≡ false) →
        Picked test (y ∷ ys) ⊎ ((x : X) → Contains (y ∷ ys) x → test x ≡ false)
    by true is rest = inl (picked_first y ys is)
    by false is (inl p) = inl (picked_behind y ys p)
    by false is (inr none) = inr (none_of y ys is none)

-- ==== entries under different names

module _ {V : Type 0} where
  found_now : (b : Bool) (v : V) (o : Option V) → b ≡ true → cond b (Some v) o ≡ Some v
  found_now true v o is = refl
  found_now false v o is = absurd (let h : ⊥ = cc in h)

  found_if : (b : Bool) (v : V) (o : Option V) (w : V) → b ≡ false → o ≡ Some w → cond b (Some v) o ≡ Some w
  found_if true v o w is found = absurd (let h : ⊥ = cc in h)
  found_if false v o w is found = found

differs_if : (a b : NameText) (same : Bool) → same_name b a ≡ same → DifferentNames a b → same_name b a ≡ false
differs_if a b true is differ = absurd (not_both a b (same_name_back b a is) differ)
differs_if a b false is differ = is

-- where names differ, each value is found by the name under which it is
pub distinct_is_found : {V : Type 0} (entries : List (NameText × V)) (e : NameText × V) → AreDistinct (map (λ (e : NameText × V). e.0) entries) → Contains entries e →
    lookup (same_name e.0) entries ≡ Some e.1
distinct_is_found [] e distinct c = absurd (none_stands e c)
distinct_is_found {V} (q ∷ entries) e distinct c =
    let keys : List NameText = map (λ (e : NameText × V). e.0) entries in
    elim (first_or_behind q entries e c) [
      | inl first ↦ subst (λ (r : NameText × V). lookup (same_name r.0) (q ∷ entries) ≡ Some r.1) (sym first)
          (found_now (same_name q.0 q.0) q.1 (lookup (same_name q.0) entries) (same_name_itself q.0))
      | inr behind ↦
          let differ = All-contains (DifferentNames q.0) keys e.0 (pairs_head DifferentNames q.0 keys distinct) (stands_mapped (λ (e : NameText × V). e.0) entries e behind) in
          found_if (same_name e.0 q.0) q.1 (lookup (same_name e.0) entries) e.1 (differs_if q.0 e.0 (same_name e.0 q.0) refl differ)
          (distinct_is_found entries e (pairs_tail DifferentNames q.0 keys distinct) behind)
    ]

-- ==== parts

-- some of the elements of a list, in their order
pub data PartOf {X : Type 0} : List X → List X → Type 0 where
  no_part : PartOf [] []
  part_with : {x : X} {xs ys : List X} → PartOf xs ys → PartOf (x ∷ xs) (x ∷ ys)
  part_without : {y : X} {xs ys : List X} → PartOf xs ys → PartOf xs (y ∷ ys)

pub part_none : {X : Type 0} (ys : List X) → PartOf [] ys
part_none [] = no_part
part_none (y ∷ ys) = part_without (part_none ys)

pub part_itself : {X : Type 0} (ys : List X) → PartOf ys ys
part_itself [] = no_part
part_itself (y ∷ ys) = part_with (part_itself ys)

pub part_one : {X : Type 0} (ys : List X) (x : X) → Contains ys x → PartOf (x ∷ []) ys
part_one [] x c = absurd (none_stands x c)
part_one (y ∷ ys) x c = elim (first_or_behind y ys x c) [
  | inl first ↦ subst (λ z. PartOf (z ∷ []) (y ∷ ys)) (sym first) (part_with (part_none ys))
  | inr behind ↦ part_without (part_one ys x behind)
]

pub part_filter : {X : Type 0} (p : X → Bool) (ys : List X) → PartOf (filter p ys) ys
part_filter p [] = no_part
part_filter {X} p (y ∷ ys) = by (p y) (part_filter p ys) where
  by : (b : Bool) {xs : List X} → PartOf xs ys → PartOf (cond b (y ∷ xs) xs) (y ∷ ys)
  by true part = part_with part
  by false part = part_without part

pub part_mapped : {X Y : Type 0} (f : X → Y) {xs ys : List X} → PartOf xs ys → PartOf (map f xs) (map f ys)
part_mapped f no_part = no_part
part_mapped f (part_with part) = part_with (part_mapped f part)
part_mapped f (part_without part) = part_without (part_mapped f part)

pub part_joined : {X : Type 0} {xs ys us vs : List X} → PartOf xs ys → PartOf us vs → PartOf (xs ++ us) (ys ++ vs)
part_joined no_part more = more
part_joined (part_with part) more = part_with (part_joined part more)
part_joined (part_without part) more = part_without (part_joined part more)

pub part_flat : {X : Type 0} {xs ys : List (List X)} → PartOf xs ys → PartOf (flat_map (λ part. part) xs) (flat_map (λ part. part) ys)
part_flat no_part = no_part
part_flat (part_with {x = x} part) = part_joined (part_itself x) (part_flat part)
part_flat (part_without {y = y} part) = part_joined (part_none y) (part_flat part)

-- ==== what holds of a part

pub part_contains : {X : Type 0} {xs ys : List X} → PartOf xs ys → (x : X) → Contains xs x → Contains ys x
part_contains no_part x c = c
part_contains (part_with {x = y} {xs = xs} {ys = ys} part) x c = elim (first_or_behind y xs x c) [
  | inl first ↦ subst (Contains (y ∷ ys)) (sym first) (stands_first y ys)
  | inr behind ↦ stands_behind y ys x (part_contains part x behind)
]
part_contains (part_without {y = y} {ys = ys} part) x c = stands_behind y ys x (part_contains part x c)

pub part_all : {X : Type 0} (P : X → Type 0) {xs ys : List X} → PartOf xs ys → All P ys → All P xs
part_all P {xs} {ys} part all = each_standing P xs (λ x c. All-contains P ys x all (part_contains part x c))

pub part_any : {X : Type 0} (P : X → Type 0) {xs ys : List X} → PartOf xs ys → Any P xs → Any P ys
part_any P part (k, x, within, is, holds) =
    let there = part_contains part x (k, within, is) in
    (there.0, x, there.1, there.2, holds)

pub part_pairs : {X : Type 0} (R : X → X → Type 0) {xs ys : List X} → PartOf xs ys → AllPairs R ys → AllPairs R xs
part_pairs R no_part all = all
part_pairs R (part_with {x = x} {xs = xs} {ys = ys} part) all =
    AllPairs-cons R x xs (part_all (R x) part (pairs_head R x ys all)) (part_pairs R part (pairs_tail R x ys all))
part_pairs R (part_without {y = y} {ys = ys} part) all = part_pairs R part (pairs_tail R y ys all)

-- what the elements of a part are related to is a part of what those of the whole are related to
pub part_zip : {X Y : Type 0} (R : X → Y → Type 0) {us vs : List X} → PartOf us vs → ((v : X) → Contains vs v → (y : Y) × R v y) → (xs : List Y) → AllZip R us xs →
    (ys : List Y) × AllZip R vs ys × PartOf xs ys
part_zip R no_part related [] zip = ([], tt, no_part)
part_zip R no_part related (x ∷ xs) zip = absurd zip
part_zip R (part_with part) related [] zip = absurd zip
part_zip R (part_with {x = v} {ys = vs} part) related (x ∷ xs) zip =
    let rest = part_zip R part (λ w c. related w (stands_behind v vs w c)) xs zip.1 in
    (x ∷ rest.0, (zip.0, rest.1), part_with rest.2)
part_zip R (part_without {y = v} {ys = vs} part) related xs zip =
    let here = related v (stands_first v vs) in
    let rest = part_zip R part (λ w c. related w (stands_behind v vs w c)) xs zip in
    (here.0 ∷ rest.0, (here.1, rest.1), part_without rest.2)
