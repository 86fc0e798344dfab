-- How the sets of a document are numbered, one after another.
use Rattle.std.proofs.Common.{◌≡◌, ℕ, zero, suc, ◌+◌, ◌<◌, ◌≤◌, List, [], ◌∷◌, ◌++◌, Some, arith, drop, get_or, length, map, refl, sym, ap, ◌∙◌, subst, sum_by, take, All, add-one}
use Rattle.std.specs.Prelude.{filter_map, slice_get}
use Rattle.std.specs.Borrow.{Bor}
use Rattle.std.proofs.lemmas.List.{append_assoc, length-append, length-map, map-append, take-append-le, take_all, take_more}
use Rattle.std.proofs.lemmas.List.Elements.{All-append, All-cons, All-nil, All-weaker}
use Rattle.std.proofs.lemmas.List.Sums.{sum_by-append, sum_by-cons}
use Rattle.std.proofs.lemmas.Option.{get_or_from_slice_get, slice_get_read, slice_get_within}
use Rattle.indexmap.specs.IndexMap.{IndexMap}
use Rattle.graphql_nodes.specs.Names.{NameText}
use Rattle.graphql_nodes.specs.declared.nodes.Node.{Node}
use Rattle.graphql_documents.specs.Selections.{Fragments, selections_of}
use Rattle.graphql_documents.specs.declared.documents.executables.Fragment.{Fragment}
use Rattle.graphql_documents.specs.declared.documents.executables.SelectionSet.{SelectionSet}
use Rattle.graphql_merging.specs.ExpansionSteps.{fragments_in}
use Rattle.graphql_pair_merging.specs.DocumentSizes.{size_of_set}
use Rattle.graphql_pair_merging.specs.NumberedSets.{AreNumbered, Begins, Describes, sets_among, sets_at, sets_of, written_set}
use Rattle.graphql_pair_merging.specs.declared.numbered_sets.NumberedSet.{NumberedSet}
use Rattle.graphql_pair_merging.proofs.NumberLemmas.{describes_still, numbers_stay}
use Rattle.graphql_pair_merging.proofs.PlaceLemmas.{mapped_at, one_at}
use Rattle.graphql_pair_merging.proofs.SizeOfSetLemmas.{size_is}

-- the set was described among these sets
abbrev IsDescribed : Fragments → List SelectionSet → NumberedSet → Type 0
IsDescribed fragments sets x = Describes fragments sets x.set.now.ty (selections_of x.set.now) x

module _ {S : Type 0} (fragments : IndexMap NameText (Node Fragment) S) (numbers : List ℕ) (first : List SelectionSet) where
  -- the first sets were described, in order
  pub record Describing (sets : List SelectionSet) (numbered : List NumberedSet) : Type 0 where
    pub begins : Begins fragments sets
    pub are_at : map (slice_get sets) numbers ≡ map (λ s. Some s) first
    pub within : length numbered ≤ length sets
    pub in_order : sets_of numbered ≡ take (length numbered) sets
    pub described : All (IsDescribed (fragments_in fragments) sets) numbered

  pub describing_begins : (sets more : List SelectionSet) → sets ≡ sets_among fragments ++ more → map (slice_get sets) numbers ≡ map (λ s. Some s) first → Describing sets []
  describing_begins sets more is at = record {
    begins = (more, is);
    are_at = at;
    within = omega arith;
    in_order = refl;
    described = All-nil (IsDescribed (fragments_in fragments) sets);
  }

  pub describing_on : (sets new : List SelectionSet) (numbered : List NumberedSet) (x : NumberedSet) →
      slice_get sets (length numbered) ≡ Some x.set.now → new ≡ sets ++ filter_map written_set (selections_of x.set.now) → IsDescribed (fragments_in fragments) new x →
      Describing sets numbered → Describing new (numbered ++ x ∷ [])
  describing_on sets new numbered x at is described d = subst (λ l. Describing l (numbered ++ x ∷ [])) (sym is) (record {
    begins = (d.begins.0 ++ added, ap (λ l. l ++ added) d.begins.1 ∙ append_assoc (sets_among fragments) d.begins.0 added);
    are_at = numbers_stay sets added numbers first d.are_at;
    within = omega (arith, less, length-append numbered (x ∷ []), length-append sets added);
    in_order = map-append (λ (y : NumberedSet). y.set.now) numbered (x ∷ []) ∙ ap (λ l. l ++ x.set.now ∷ []) d.in_order ∙ sym taken;
    described = All-append (IsDescribed (fragments_in fragments) (sets ++ added)) numbered (x ∷ [])
        (All-weaker (IsDescribed (fragments_in fragments) sets) (IsDescribed (fragments_in fragments) (sets ++ added))
        (λ y. describes_still (fragments_in fragments) y.set.now.ty sets added (selections_of y.set.now) y) numbered d.described)
        (All-cons (IsDescribed (fragments_in fragments) (sets ++ added)) x [] (subst (λ l. IsDescribed (fragments_in fragments) l x) is described)
        (All-nil (IsDescribed (fragments_in fragments) (sets ++ added))));
  }) where
    added : List SelectionSet
    added = filter_map written_set (selections_of x.set.now)

    less : length numbered < length sets
    less = slice_get_within sets (length numbered) x.set.now at

    taken : take (length (numbered ++ x ∷ [])) (sets ++ added) ≡ take (length numbered) sets ++ x.set.now ∷ []
    taken =
        ap (λ n. take n (sets ++ added)) (length-append numbered (x ∷ [])) ∙
        take-append-le (length numbered + 1) sets added (omega (arith, less)) ∙ take_more sets (length numbered) x.set.now less ∙
        ap (λ t. take (length numbered) sets ++ t ∷ []) (get_or_from_slice_get sets (length numbered) x.set.now x.set.now at)

  pub describing_ends : (sets : List SelectionSet) (numbered : List NumberedSet) → length sets ≤ length numbered → Describing sets numbered → AreNumbered (fragments_in fragments) numbers first numbered
  describing_ends sets numbered all d =
      let same : sets_of numbered ≡ sets = d.in_order ∙ take_all (length numbered) sets all in
      record {
        described = subst (λ l. All (IsDescribed (fragments_in fragments) l) numbered) (sym same) d.described;
        are_at = subst (λ l. map (slice_get l) numbers ≡ map (λ s. Some s) first) (sym same) d.are_at;
      }

-- once a set was described less is left, by the set itself and its selections
rest_sizes : (sets more : List SelectionSet) (k : ℕ) (set : SelectionSet) → slice_get sets k ≡ Some set →
    sum_by size_of_set (drop (suc k) (sets ++ more)) + size_of_set set ≡ sum_by size_of_set (drop k sets) + sum_by size_of_set more
rest_sizes [] more k set at = absurd (let no : ⊥ = cc in no)
rest_sizes (s ∷ sets) more zero set at =
    let same : size_of_set s ≡ size_of_set set = ap size_of_set (one_at (Some s) s set refl at) in
    omega (arith, same, sum_by-append size_of_set sets more, sum_by-cons size_of_set s sets)
rest_sizes (s ∷ sets) more (suc k) set at = rest_sizes sets more k set at

pub lighter : (sets new : List SelectionSet) (numbered : List NumberedSet) (x : NumberedSet) (set : SelectionSet) → slice_get sets (length numbered) ≡ Some set →
    new ≡ sets ++ filter_map written_set (selections_of set) →
    sum_by size_of_set (drop (length (numbered ++ x ∷ [])) new) + suc (length (selections_of set)) ≡ sum_by size_of_set (drop (length numbered) sets)
lighter sets new numbered x set at is =
    let added = filter_map written_set (selections_of set) in
    let count : length (numbered ++ x ∷ []) ≡ suc (length numbered) = length-append numbered (x ∷ []) ∙ add-one (length numbered) in
    let same : sum_by size_of_set (drop (length (numbered ++ x ∷ [])) new) ≡ sum_by size_of_set (drop (suc (length numbered)) (sets ++ added)) =
    ap (λ n. sum_by size_of_set (drop n new)) count ∙ ap (λ l. sum_by size_of_set (drop (suc (length numbered)) l)) is in
    omega (arith, same, rest_sizes sets added (length numbered) set at, size_is set)

-- the set at a number and its selections are among what is left
pub left_at : (sets : List SelectionSet) (k : ℕ) (set : SelectionSet) → slice_get sets k ≡ Some set → suc (length (selections_of set)) ≤ sum_by size_of_set (drop k sets)
left_at sets k set at = omega (arith, rest_sizes sets [] k set at, size_is set)

-- the set that is read at a number is the one there
pub read_at : (items : List (Bor SelectionSet)) (i n : ℕ) (s : Bor SelectionSet) → i ≡ n → i < length items → s ≡ get_or items i s → slice_get (sets_at items) n ≡ Some s.now
read_at items i n s same within is =
    subst (λ m. slice_get (sets_at items) m ≡ Some s.now) same (mapped_at (λ (r : Bor SelectionSet). r.now) items i s (slice_get_read items (length items) i s refl within is))

pub length_of_sets : (items : List (Bor SelectionSet)) → length (sets_at items) ≡ length items
length_of_sets items = length-map items (λ (r : Bor SelectionSet). r.now)
