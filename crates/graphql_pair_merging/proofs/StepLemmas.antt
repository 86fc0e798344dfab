-- How the steps of merging by pairs add up.
use Rattle.std.proofs.Common.{◌≡◌, All, Some, ℕ, zero, suc, ◌+◌, ◌*◌, ◌<◌, ◌≤◌, Bool, true, false, List, [], ◌∷◌, ◌++◌, arith, ap, get_or, length, map, mul-le-mul_left, take, ◌∙◌}
use Rattle.std.specs.Prelude.{Err, Ok, OnOk, Result, Vec, if◌then◌else◌, slice_get}
use Rattle.std.specs.declared.alloc.Global.{Global}
use Rattle.std.proofs.lemmas.List.{map-append}
use Rattle.std.proofs.lemmas.List.Elements.{All-contains}
use Rattle.std.proofs.lemmas.List.Sums.{sum_by-cons, sum_by-take-le, sum_by_more, sum_by_push}
use Rattle.graphql_pair_merging.specs.NumberedSets.{count_fields, count_in}
use Rattle.graphql_pair_merging.specs.Pairs.{AreLinked, IsLinked, lists_at}
use Rattle.graphql_pair_merging.specs.Works.{comparisons, places_in}
use Rattle.graphql_pair_merging.specs.declared.numbered_sets.NumberedSet.{NumberedSet}
use Rattle.graphql_pair_merging.proofs.PlaceLemmas.{stands_at}

-- one list came to those that wait
pub one_list_more : (old new : List (Vec ℕ Global)) (v : Vec ℕ Global) → new ≡ old ++ v ∷ [] → places_in (lists_at new) ≡ places_in (lists_at old) + (length v.items + 1)
one_list_more old new v is =
    ap (λ l. places_in (lists_at l)) is ∙ ap places_in (map-append (λ (l : Vec ℕ Global). l.items) old (v ∷ [])) ∙ sum_by_push (λ (l : List ℕ). length l + 1) (lists_at old) v.items

-- numbers that are alone in their lists
pub alone_places : (starts : List ℕ) → places_in (map (λ n. n ∷ []) starts) ≡ 2 * length starts
alone_places [] = omega arith
alone_places (n ∷ starts) = omega (arith, alone_places starts, sum_by-cons (λ (l : List ℕ). length l + 1) (n ∷ []) (map (λ n. n ∷ []) starts))

-- the fields of one set more
pub count_more : (sets : List NumberedSet) (numbers : List ℕ) (i : ℕ) → i < length numbers →
    count_fields sets (take (i + 1) numbers) ≡ count_fields sets (take i numbers) + count_in (slice_get sets (get_or numbers i 0))
count_more sets numbers i within = sum_by_more (λ n. count_in (slice_get sets n)) numbers i 0 within

-- the first of the sets have no more fields than all
pub count_fewer : (sets : List NumberedSet) (numbers : List ℕ) (i : ℕ) → count_fields sets (take i numbers) ≤ count_fields sets numbers
count_fewer sets numbers i = sum_by-take-le (λ n. count_in (slice_get sets n)) numbers i

-- each field is compared with one at least
pub compared_each : (alone : Bool) (n : ℕ) → n ≤ comparisons alone n
compared_each true n = omega arith
compared_each false zero = omega arith
compared_each false (suc n) =
    let some : 1 ≤ suc n = omega arith in
    omega (arith, mul-le-mul_left (suc n) some)

-- a new name is one more
pub one_or_none : (known : Bool) → (if known then 0 else 1) ≤ 1
one_or_none true = omega arith
one_or_none false = omega arith

-- the fragments in a set are among the sets
pub fragments_within : (sets : List NumberedSet) (number : ℕ) (set : NumberedSet) → AreLinked sets → slice_get sets number ≡ Some set → All (λ n. n < length sets) set.fragments.items
fragments_within sets number set linked at = (All-contains (IsLinked (length sets)) sets set linked (stands_at sets number set at)).fragments

-- what holds at all holds where a call answers
pub on_ok : {T E P : Type 0} (r : Result T E) → P → OnOk r P
on_ok (Ok v) p = p
on_ok (Err e) p = tt
