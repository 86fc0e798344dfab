-- Reports that are shown one after another.
use Rattle.std.proofs.Common.{◌≡◌, ◌∙◌, ◌⊎◌, ◌<◌, ◌≤◌, ◌+◌, ◌-◌, ℕ, List, [], ◌∷◌, ◌++◌, ap, append_assoc, arith, get_or, inl, inr, length, map, refl, sym, subst, take, take_all}
use Rattle.std.specs.List.{AllZip}
use Rattle.std.proofs.Math.Seq.{take-append-add}
use Rattle.std.proofs.lemmas.List.{append-nil, length-map, take-append-le, take-map}
use Rattle.graphql_leaf_building.proofs.ListLemmas.{zip_more}
use Rattle.graphql_shown_reports.specs.Shown.{Report, ShowsMore}
use Rattle.graphql_shown_reports.specs.declared.shown.ShownReport.{ShownReport}

-- before the first report nothing is shown
pub none_shown : {X : Type 0} (R : X → ShownReport → Type 0) (old : List ShownReport) → ShowsMore R [] old old
none_shown R old = ([], sym (append-nil old), tt)

-- the first i reports are shown, and the next one
pub shown_more : {X : Type 0} (R : X → ShownReport → Type 0) (xs : List X) (i : ℕ) (x : X) (s : ShownReport) (old mid new : List ShownReport) →
    i < length xs → x ≡ get_or xs i x → ShowsMore R (take i xs) old mid → R x s → new ≡ mid ++ s ∷ [] → ShowsMore R (take (i + 1) xs) old new
shown_more R xs i x s old mid new within is (more, grown, all) r pushed = (
  more ++ s ∷ [],
  pushed ∙ ap (λ l. l ++ s ∷ []) grown ∙ append_assoc old more (s ∷ []),
  zip_more R xs i x more (more ++ s ∷ []) s within is all r refl,
)

pub all_shown : {X : Type 0} (R : X → ShownReport → Type 0) (xs : List X) (i : ℕ) (old new : List ShownReport) →
    length xs ≤ i → ShowsMore R (take i xs) old new → ShowsMore R xs old new
all_shown R xs i old new past so = subst (λ l. ShowsMore R l old new) (take_all i xs past) so

-- one report alone
pub one_shown : {X : Type 0} (R : X → ShownReport → Type 0) (x : X) (s : ShownReport) (old new : List ShownReport) →
    R x s → new ≡ old ++ s ∷ [] → ShowsMore R (x ∷ []) old new
one_shown R x s old new r pushed = (s ∷ [], pushed, (r, tt))

zip_mapped : {X Y Z : Type 0} (f : X → Y) (R : Y → Z → Type 0) (xs : List X) (zs : List Z) → AllZip (λ x z. R (f x) z) xs zs → AllZip R (map f xs) zs
zip_mapped f R [] [] all = tt
zip_mapped f R [] (z ∷ zs) all = absurd all
zip_mapped f R (x ∷ xs) [] all = absurd all
zip_mapped f R (x ∷ xs) (z ∷ zs) all = (all.0, zip_mapped f R xs zs all.1)

zip_appended : {Y Z : Type 0} (R : Y → Z → Type 0) (xs ys : List Y) (us vs : List Z) → AllZip R xs us → AllZip R ys vs → AllZip R (xs ++ ys) (us ++ vs)
zip_appended R [] ys [] vs all more = more
zip_appended R [] ys (u ∷ us) vs all more = absurd all
zip_appended R (x ∷ xs) ys [] vs all more = absurd all
zip_appended R (x ∷ xs) ys (u ∷ us) vs all more = (all.0, zip_appended R xs ys us vs all.1 more)

-- the first of one list of reports, as single reports
pub alone : {X : Type 0} (f : X → Report) (R : Report → ShownReport → Type 0) (most : ℕ) (xs : List X) (old new : List ShownReport) →
    ShowsMore (λ x s. R (f x) s) (take most xs) old new → ShowsMore R (take most (map f xs)) old new
alone f R most xs old new (more, grown, all) = (more, grown, rw (take-map f most xs) (zip_mapped f R (take most xs) more all))

below_or_above : (n m : ℕ) → (n ≤ m) ⊎ (m ≤ n)
below_or_above n m = grind arith

-- the first of two lists: those of the one, and as many of the other as are left
take_past : {X : Type 0} (n : ℕ) (xs ys : List X) → take n (xs ++ ys) ≡ take n xs ++ take (n - length xs) ys
take_past n xs ys = elim (below_or_above n (length xs)) [
  | inl below ↦
      let none : n - length xs ≡ 0 = omega (arith, below) in
      take-append-le n xs ys below ∙ sym (append-nil (take n xs)) ∙ ap (λ k. take n xs ++ take k ys) (sym none)
  | inr above ↦
      let sum : n ≡ length xs + (n - length xs) = omega (arith, above) in
      ap (λ k. take k (xs ++ ys)) sum ∙ take-append-add xs ys (n - length xs) ∙ ap (λ l. l ++ take (n - length xs) ys) (sym (take_all n xs above))
]

behind : {Y : Type 0} (R : Y → ShownReport → Type 0) (xs ys : List Y) (old mid new : List ShownReport) →
    ShowsMore R xs old mid → ShowsMore R ys mid new → ShowsMore R (xs ++ ys) old new
behind R xs ys old mid new (some, shown, each) (more, grown, all) =
    (some ++ more, grown ∙ ap (λ l. l ++ more) shown ∙ append_assoc old some more, zip_appended R xs ys some more each all)

-- the first of several lists of reports: those of the first list, and as many of the others as are left
pub before_others : {X : Type 0} (f : X → Report) (R : Report → ShownReport → Type 0) (most : ℕ) (xs : List X) (others : List Report) (old mid new : List ShownReport) →
    ShowsMore (λ x s. R (f x) s) (take most xs) old mid → ShowsMore R (take (most - length xs) others) mid new → ShowsMore R (take most (map f xs ++ others)) old new
before_others f R most xs others old mid new first rest =
    let same : take most (map f xs ++ others) ≡ take most (map f xs) ++ take (most - length xs) others =
    take_past most (map f xs) others ∙ ap (λ n. take most (map f xs) ++ take (most - n) others) (length-map xs f) in
    subst (λ l. ShowsMore R l old new) (sym same)
    (behind R (take most (map f xs)) (take (most - length xs) others) old mid new (alone f R most xs old mid first) rest)
