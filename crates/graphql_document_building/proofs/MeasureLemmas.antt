-- How deep selections are. A selection is no deeper than the deepest of those among which it is.
use Rattle.std.proofs.Common.{◌≡◌, ℕ, ◌<◌, ◌≤◌, List, arith, get_or, length, sym, subst}
use denote.Param.Weighed.{at_most, most}
use Rattle.graphql_trees.specs.declared.executable.InlineFragment.{InlineFragment, size-InlineFragment, size_is-InlineFragment}
use Rattle.graphql_trees.specs.declared.executable.SelectionSet.{size_is-SelectionSet}
use Rattle.graphql_trees.specs.declared.executable.Selection.{Selection, size-Selection}

abbrev pub most_size : List Selection → ℕ
most_size trees = most size-Selection trees

pub item_is_no_deeper : (trees : List Selection) (i : ℕ) (x : Selection) → i < length trees → x ≡ get_or trees i x → size-Selection x ≤ most_size trees
item_is_no_deeper trees i x within is = subst (λ y. size-Selection y ≤ most_size trees) (sym is) (at_most size-Selection trees i x within)

pub set_is_smaller : (x : InlineFragment) → most_size x.selection_set.selections < size-InlineFragment x
set_is_smaller x = omega (arith, size_is-InlineFragment x, size_is-SelectionSet x.selection_set)
