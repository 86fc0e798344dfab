-- How many sets are written in a set, itself included.
use Rattle.std.proofs.Common.{◌≡◌, ◌≤◌, ◌<◌, ◌+◌, ℕ, Bool, true, false, suc, List, [], ◌∷◌, ◌++◌, Option, None, Some, arith, length, map, refl, ◌∙◌, ap, sum_by}
use Rattle.std.specs.Prelude.{filter_map, sum, ◌==◌, if◌then◌else◌}
use Rattle.std.specs.List.{cons_option}
use Rattle.std.specs.Option.{option_map_or}
use Rattle.std.proofs.lemmas.List.Sums.{sum-map, sum_by-cons, sum_by-append}
use Rattle.graphql_documents.specs.Selections.{no_fragments, selections_of}
use Rattle.graphql_documents.specs.declared.documents.executables.Selection.{Selection, out-Selection}
use Rattle.graphql_documents.specs.declared.documents.executables.Selection.TheFolds.{fold-Selection, fold-SelectionSet, fold-InlineFragment, fold-Field, fold_out-Selection, fold_out-SelectionSet, fold_out-InlineFragment, fold_out-Field, map-Selection}
use Rattle.graphql_documents.specs.declared.documents.executables.Selection.TheOpen as Open
use Rattle.graphql_documents.specs.declared.documents.executables.SelectionSet.{SelectionSet}
use Rattle.graphql_documents.specs.declared.documents.executables.Field.{Field}
use Rattle.graphql_documents.specs.declared.documents.executables.InlineFragment.{InlineFragment}
use Rattle.graphql_nesting.specs.Nesting.{set_below, sets_below}
use Rattle.graphql_nesting.proofs.DescentLemmas.{opened_below}

abbrev of_selection : Open.Selection-F ℕ ℕ ℕ ℕ → ℕ
of_selection (Open.Field f) = f.value.value
of_selection (Open.FragmentSpread p) = 0
of_selection (Open.InlineFragment i) = i.value.value

abbrev of_field : Open.Field-F ℕ ℕ ℕ ℕ → ℕ
of_field f = f.selection_set

abbrev of_inline : Open.InlineFragment-F ℕ ℕ ℕ ℕ → ℕ
of_inline i = i.selection_set

abbrev of_set : Open.SelectionSet-F ℕ ℕ ℕ ℕ → ℕ
of_set set = suc (sum set.selections.items)

pub weight_of_set : SelectionSet → ℕ
weight_of_set set = fold-SelectionSet ℕ ℕ ℕ ℕ of_selection of_field of_inline of_set set

weight_of : Selection → ℕ
weight_of s = fold-Selection ℕ ℕ ℕ ℕ of_selection of_field of_inline of_set s

weight_of_set_is : (set : SelectionSet) → weight_of_set set ≡ suc (sum_by weight_of (selections_of set))
unfolding weight_of_set weight_of
weight_of_set_is set =
    fold_out-SelectionSet ℕ ℕ ℕ ℕ of_selection of_field of_inline of_set set ∙
    ap (λ n. suc n) (sum-map (fold-Selection ℕ ℕ ℕ ℕ of_selection of_field of_inline of_set) (selections_of set))

-- a selection by what it opens to
abbrev opened_weight : Open.Selection-F Selection Field InlineFragment SelectionSet → ℕ
opened_weight o = of_selection (map-Selection Selection Field InlineFragment SelectionSet ℕ ℕ ℕ ℕ
    (fold-Selection ℕ ℕ ℕ ℕ of_selection of_field of_inline of_set) (fold-Field ℕ ℕ ℕ ℕ of_selection of_field of_inline of_set)
    (fold-InlineFragment ℕ ℕ ℕ ℕ of_selection of_field of_inline of_set) (fold-SelectionSet ℕ ℕ ℕ ℕ of_selection of_field of_inline of_set) o)

weight_opened : (s : Selection) → weight_of s ≡ opened_weight (out-Selection s)
unfolding weight_of
weight_opened s = fold_out-Selection ℕ ℕ ℕ ℕ of_selection of_field of_inline of_set s

-- what a set weighs, if there is one
abbrev weight_of_option : Option SelectionSet → ℕ
weight_of_option o = option_map_or weight_of_set o 0

-- a set weighs at least nothing
weight_of_some : (b : Bool) (set : SelectionSet) → weight_of_option (if b then None else Some set) ≤ weight_of_set set
weight_of_some true set = omega arith
weight_of_some false set = omega arith

below_weight : (o : Open.Selection-F Selection Field InlineFragment SelectionSet) → weight_of_option (opened_below no_fragments o) ≤ opened_weight o
unfolding weight_of_set
below_weight (Open.Field f) =
    let is : fold-Field ℕ ℕ ℕ ℕ of_selection of_field of_inline of_set f.value.value ≡ weight_of_set f.value.value.selection_set =
    fold_out-Field ℕ ℕ ℕ ℕ of_selection of_field of_inline of_set f.value.value in
    omega (arith, is, weight_of_some (length (selections_of f.value.value.selection_set) == 0) f.value.value.selection_set)
below_weight (Open.FragmentSpread p) = omega arith
below_weight (Open.InlineFragment i) =
    let is : fold-InlineFragment ℕ ℕ ℕ ℕ of_selection of_field of_inline of_set i.value.value ≡ weight_of_set i.value.value.selection_set =
    fold_out-InlineFragment ℕ ℕ ℕ ℕ of_selection of_field of_inline of_set i.value.value in
    omega (arith, is)

-- the first of a list, if there is one
first_weight : (o : Option SelectionSet) (rest : List SelectionSet) → sum_by weight_of_set (cons_option o rest) ≡ weight_of_option o + sum_by weight_of_set rest
first_weight None rest = omega arith
first_weight (Some set) rest = sum_by-cons weight_of_set set rest

written_weight : (xs : List Selection) → sum_by weight_of_set (filter_map (set_below no_fragments) xs) ≤ sum_by weight_of xs
written_weight [] = omega arith
written_weight (s ∷ xs) =
    omega (arith, first_weight (set_below no_fragments s) (filter_map (set_below no_fragments) xs), sum_by-cons weight_of s xs, below_weight (out-Selection s), weight_opened s, written_weight xs)

-- a set weighs more than the sets that are written below it
pub weighs_more : (set : SelectionSet) → sum_by weight_of_set (sets_below no_fragments set) < weight_of_set set
weighs_more set = omega (arith, weight_of_set_is set, written_weight (selections_of set))

-- what the sets weigh that are to be looked at
pub weight_left : List (SelectionSet × ℕ) → ℕ
weight_left left = sum_by (λ (x : SelectionSet × ℕ). weight_of_set x.0) left

weight_of_mapped : (above : ℕ) (sets : List SelectionSet) → weight_left (map (λ set. (set, above)) sets) ≡ sum_by weight_of_set sets
unfolding weight_left
weight_of_mapped above [] = refl
weight_of_mapped above (set ∷ sets) =
    let rest = weight_of_mapped above sets in
    omega (arith, rest, sum_by-cons weight_of_set set sets, sum_by-cons (λ (x : SelectionSet × ℕ). weight_of_set x.0) (set, above) (map (λ set. (set, above)) sets))

-- once a set was looked at there is less left
pub lighter : (left old new : List (SelectionSet × ℕ)) (set : SelectionSet) (above next : ℕ) → old ≡ left ++ (set, above) ∷ [] →
    new ≡ left ++ map (λ set. (set, next)) (sets_below no_fragments set) → weight_left new < weight_left old
unfolding weight_left
lighter left old new set above next was is =
    let added = map (λ (set : SelectionSet). (set, next)) (sets_below no_fragments set) in
    let weigh = λ (x : SelectionSet × ℕ). weight_of_set x.0 in
    let before : sum_by weigh old ≡ sum_by weigh (left ++ (set, above) ∷ []) = ap (sum_by weigh) was in
    let after : sum_by weigh new ≡ sum_by weigh (left ++ added) = ap (sum_by weigh) is in
    let mapped : sum_by weigh added ≡ sum_by weight_of_set (sets_below no_fragments set) = weight_of_mapped next (sets_below no_fragments set) in
    omega (arith, before, after, mapped, sum_by-append weigh left added, sum_by-append weigh left ((set, above) ∷ []), sum_by-cons weigh (set, above) [], weighs_more set)
