-- How many sets and selections are written in a set, itself included.
use Rattle.std.proofs.Common.{◌≡◌, ◌+◌, ◌≤◌, ℕ, suc, length, List, [], ◌∷◌, Option, None, Some, arith, refl, sym, ◌∙◌, ap, sum_by}
use Rattle.std.specs.Prelude.{filter_map}
use Rattle.std.specs.List.{cons_option}
use Rattle.std.proofs.lemmas.List.Sums.{sum-map, sum_by-cons}
use Rattle.graphql_documents.specs.Selections.{selections_of}
use Rattle.graphql_nodes.specs.declared.nodes.Node.{Node}
use Rattle.graphql_documents.specs.declared.documents.executables.Selection.{Selection, out-Selection}
use Rattle.graphql_documents.specs.declared.documents.executables.Selection.TheFolds.{fold-Selection, fold-SelectionSet, fold-InlineFragment, fold-Field, fold_out-Selection, fold_out-SelectionSet, fold_out-InlineFragment, fold_out-Field, map-Selection}
use Rattle.graphql_documents.specs.declared.documents.executables.Selection.TheOpen as Open
use Rattle.graphql_documents.specs.declared.documents.executables.Selection.TheVariants as kind
use Rattle.graphql_documents.specs.declared.documents.executables.SelectionSet.{SelectionSet}
use Rattle.graphql_documents.specs.declared.documents.executables.Field.{Field}
use Rattle.graphql_documents.specs.declared.documents.executables.InlineFragment.{InlineFragment}
use Rattle.graphql_documents.specs.declared.documents.executables.FragmentSpread.{FragmentSpread}
use Rattle.graphql_laws.proofs.SizeLemmas.{Kind, is_field, is_inline, is_spread, kind_of}
use Rattle.graphql_pair_merging.specs.DocumentSizes.{of_field, of_inline, of_selection, of_set, size_of_set}
use Rattle.graphql_pair_merging.specs.NumberedSets.{written_set}

size_of_selection : Selection → ℕ
size_of_selection s = fold-Selection ℕ ℕ ℕ ℕ of_selection of_field of_inline of_set s

size_of_set_is : (set : SelectionSet) → size_of_set set ≡ suc (sum_by size_of_selection (selections_of set))
unfolding size_of_set size_of_selection
size_of_set_is set =
    fold_out-SelectionSet ℕ ℕ ℕ ℕ of_selection of_field of_inline of_set set ∙
    ap (λ n. suc n) (sum-map (fold-Selection ℕ ℕ ℕ ℕ of_selection of_field of_inline of_set) (selections_of set))

-- a selection by what it opens to
abbrev opened_size : Open.Selection-F Selection Field InlineFragment SelectionSet → ℕ
opened_size o = of_selection (map-Selection Selection Field InlineFragment SelectionSet ℕ ℕ ℕ ℕ
    (fold-Selection ℕ ℕ ℕ ℕ of_selection of_field of_inline of_set) (fold-Field ℕ ℕ ℕ ℕ of_selection of_field of_inline of_set)
    (fold-InlineFragment ℕ ℕ ℕ ℕ of_selection of_field of_inline of_set) (fold-SelectionSet ℕ ℕ ℕ ℕ of_selection of_field of_inline of_set) o)

size_opened : (s : Selection) → size_of_selection s ≡ opened_size (out-Selection s)
unfolding size_of_selection
size_opened s = fold_out-Selection ℕ ℕ ℕ ℕ of_selection of_field of_inline of_set s

size_of_field : (f : Node Field) → size_of_selection (kind.Field f) ≡ suc (size_of_set f.value.value.selection_set)
unfolding size_of_set
size_of_field f =
    size_opened (kind.Field f) ∙ ap opened_size (kind.outs-Field f) ∙
    ap (λ n. suc n) (fold_out-Field ℕ ℕ ℕ ℕ of_selection of_field of_inline of_set f.value.value)

size_of_spread : (p : Node FragmentSpread) → size_of_selection (kind.FragmentSpread p) ≡ 1
size_of_spread p = size_opened (kind.FragmentSpread p) ∙ ap opened_size (kind.outs-FragmentSpread p)

size_of_inline : (i : Node InlineFragment) → size_of_selection (kind.InlineFragment i) ≡ suc (size_of_set i.value.value.selection_set)
unfolding size_of_set
size_of_inline i =
    size_opened (kind.InlineFragment i) ∙ ap opened_size (kind.outs-InlineFragment i) ∙
    ap (λ n. suc n) (fold_out-InlineFragment ℕ ℕ ℕ ℕ of_selection of_field of_inline of_set i.value.value)

-- the set that is written in a selection, as this opens
abbrev pub opened_set : Open.Selection-F Selection Field InlineFragment SelectionSet → Option SelectionSet
opened_set o = elim o [
  | Open.Field f ↦ Some f.value.value.selection_set
  | Open.FragmentSpread p ↦ None
  | Open.InlineFragment i ↦ Some i.value.value.selection_set
]

written_size : (xs : List Selection) → length xs + sum_by size_of_set (filter_map written_set xs) ≡ sum_by size_of_selection xs
written_size [] = refl
written_size (s ∷ xs) = by_kind (kind_of s) (written_size xs) where
  Adds : List Selection → Type 0
  Adds l = length l + sum_by size_of_set (filter_map written_set l) ≡ sum_by size_of_selection l

  with_set : (s : Selection) (set : SelectionSet) → Adds xs → written_set s ≡ Some set → size_of_selection s ≡ suc (size_of_set set) → Adds (s ∷ xs)
  with_set s set rest is sizes =
      ap (λ o. length (s ∷ xs) + sum_by size_of_set (cons_option o (filter_map written_set xs))) is ∙
      omega (arith, sum_by-cons size_of_set set (filter_map written_set xs), sum_by-cons size_of_selection s xs, sizes, rest)

  with_none : (s : Selection) → Adds xs → written_set s ≡ None → size_of_selection s ≡ 1 → Adds (s ∷ xs)
  with_none s rest is sizes =
      ap (λ o. length (s ∷ xs) + sum_by size_of_set (cons_option o (filter_map written_set xs))) is ∙
      omega (arith, sum_by-cons size_of_selection s xs, sizes, rest)

  by_kind : {s : Selection} → Kind s → Adds xs → Adds (s ∷ xs)
  by_kind (is_field f) rest = with_set (kind.Field f) f.value.value.selection_set rest (ap opened_set (kind.outs-Field f)) (size_of_field f)
  by_kind (is_spread p) rest = with_none (kind.FragmentSpread p) rest (ap opened_set (kind.outs-FragmentSpread p)) (size_of_spread p)
  by_kind (is_inline i) rest = with_set (kind.InlineFragment i) i.value.value.selection_set rest (ap opened_set (kind.outs-InlineFragment i)) (size_of_inline i)

-- the size of a set is one, with its selections and what is written in them
pub size_is : (set : SelectionSet) → size_of_set set ≡ suc (length (selections_of set) + sum_by size_of_set (filter_map written_set (selections_of set)))
size_is set = size_of_set_is set ∙ ap (λ n. suc n) (sym (written_size (selections_of set)))

-- there are no more sets than their sizes sum up to
pub no_larger : (sets : List SelectionSet) → length sets ≤ sum_by size_of_set sets
no_larger [] = omega arith
no_larger (set ∷ sets) = omega (arith, no_larger sets, sum_by-cons size_of_set set sets, size_is set)
