-- How large a set is, and the kinds of selections.
use Rattle.std.proofs.Common.{◌≡◌, ℕ, suc, sym, ◌∙◌, ap, subst, sum_by}
use Rattle.std.specs.Prelude.{sum}
use Rattle.std.proofs.lemmas.List.Sums.{sum-map}
use Rattle.graphql_documents.specs.Selections.{selections_of}
use Rattle.graphql_nodes.specs.declared.nodes.Node.{Node}
use Rattle.graphql_documents.specs.declared.documents.executables.Selection.{Selection, out-Selection, roll-Selection, roll-out-Selection}
use Rattle.graphql_documents.specs.declared.documents.executables.Selection.TheFolds.{fold-Selection, fold-SelectionSet, fold-InlineFragment, fold_out-Selection, fold_out-SelectionSet, fold_out-InlineFragment, map-Selection, fold-Field}
use Rattle.graphql_documents.specs.declared.documents.executables.Selection.TheOpen as Open
use Rattle.graphql_documents.specs.declared.documents.executables.Selection.TheVariants as kind
use Rattle.graphql_documents.specs.declared.documents.executables.SelectionSet.{SelectionSet}
use Rattle.graphql_documents.specs.declared.documents.executables.Field.{Field}
use Rattle.graphql_documents.specs.declared.documents.executables.InlineFragment.{InlineFragment}
use Rattle.graphql_documents.specs.declared.documents.executables.FragmentSpread.{FragmentSpread}

-- how many selections and sets are in a set, those of its inline fragments included, at any depth
abbrev of_selection : Open.Selection-F ℕ ℕ ℕ ℕ → ℕ
of_selection (Open.Field f) = 1
of_selection (Open.FragmentSpread p) = 1
of_selection (Open.InlineFragment i) = suc i.value.value

abbrev of_field : Open.Field-F ℕ ℕ ℕ ℕ → ℕ
of_field f = 0

abbrev of_inline : Open.InlineFragment-F ℕ ℕ ℕ ℕ → ℕ
of_inline i = i.selection_set

abbrev of_set : Open.SelectionSet-F ℕ ℕ ℕ ℕ → ℕ
of_set set = suc (sum set.selections.items)

pub size_of_set : SelectionSet → ℕ
size_of_set set = fold-SelectionSet ℕ ℕ ℕ ℕ of_selection of_field of_inline of_set set

pub size_of : Selection → ℕ
size_of s = fold-Selection ℕ ℕ ℕ ℕ of_selection of_field of_inline of_set s

pub size_of_set_is : (set : SelectionSet) → size_of_set set ≡ suc (sum_by size_of (selections_of set))
unfolding size_of_set size_of
size_of_set_is set =
    fold_out-SelectionSet ℕ ℕ ℕ ℕ of_selection of_field of_inline of_set set ∙
    ap (λ n. suc n) (sum-map (fold-Selection ℕ ℕ ℕ ℕ of_selection of_field of_inline of_set) (selections_of set))

-- a selection by what it opens to
abbrev opened_size : Open.Selection-F Selection Field InlineFragment SelectionSet → ℕ
opened_size o = of_selection (map-Selection Selection Field InlineFragment SelectionSet ℕ ℕ ℕ ℕ
    (fold-Selection ℕ ℕ ℕ ℕ of_selection of_field of_inline of_set) (fold-Field ℕ ℕ ℕ ℕ of_selection of_field of_inline of_set)
    (fold-InlineFragment ℕ ℕ ℕ ℕ of_selection of_field of_inline of_set) (fold-SelectionSet ℕ ℕ ℕ ℕ of_selection of_field of_inline of_set) o)

size_opened : (s : Selection) → size_of s ≡ opened_size (out-Selection s)
unfolding size_of
size_opened s = fold_out-Selection ℕ ℕ ℕ ℕ of_selection of_field of_inline of_set s

pub size_of_field : (f : Node Field) → size_of (kind.Field f) ≡ 1
size_of_field f = size_opened (kind.Field f) ∙ ap opened_size (kind.outs-Field f)

pub size_of_spread : (p : Node FragmentSpread) → size_of (kind.FragmentSpread p) ≡ 1
size_of_spread p = size_opened (kind.FragmentSpread p) ∙ ap opened_size (kind.outs-FragmentSpread p)

pub size_of_inline : (i : Node InlineFragment) → size_of (kind.InlineFragment i) ≡ suc (size_of_set i.value.value.selection_set)
unfolding size_of_set
size_of_inline i =
    size_opened (kind.InlineFragment i) ∙ ap opened_size (kind.outs-InlineFragment i) ∙
    ap (λ n. suc n) (fold_out-InlineFragment ℕ ℕ ℕ ℕ of_selection of_field of_inline of_set i.value.value)

-- the kinds of a selection
pub data Kind : Selection → Type 0 where
  is_field : (f : Node Field) → Kind (kind.Field f)
  is_spread : (p : Node FragmentSpread) → Kind (kind.FragmentSpread p)
  is_inline : (i : Node InlineFragment) → Kind (kind.InlineFragment i)

kind_opened : (o : Open.Selection-F Selection Field InlineFragment SelectionSet) → Kind (roll-Selection o)
kind_opened (Open.Field f) = subst Kind (sym (kind.rolls-Field f)) (is_field f)
kind_opened (Open.FragmentSpread p) = subst Kind (sym (kind.rolls-FragmentSpread p)) (is_spread p)
kind_opened (Open.InlineFragment i) = subst Kind (sym (kind.rolls-InlineFragment i)) (is_inline i)

pub kind_of : (s : Selection) → Kind s
kind_of s = subst Kind (roll-out-Selection s) (kind_opened (out-Selection s))
