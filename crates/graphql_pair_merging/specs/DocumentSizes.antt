-- How large documents are.
use Rattle.std.specs.Prelude.{◌+◌, ℕ, suc, List, sum, sum_by}
use Rattle.indexmap.specs.IndexMap.{IndexMap}
use Rattle.graphql_nodes.specs.Names.{NameText}
use Rattle.graphql_nodes.specs.declared.nodes.Node.{Node}
use Rattle.graphql_documents.specs.declared.documents.executables.Fragment.{Fragment}
use Rattle.graphql_documents.specs.declared.documents.executables.Selection.TheFolds.{fold-SelectionSet}
use Rattle.graphql_documents.specs.declared.documents.executables.Selection.TheOpen as Open
use Rattle.graphql_documents.specs.declared.documents.executables.SelectionSet.{SelectionSet}
use Rattle.graphql_pair_merging.specs.NumberedSets.{sets_among}

-- a selection counts one, with its set if it is a field or an inline fragment
abbrev pub of_selection : Open.Selection-F ℕ ℕ ℕ ℕ → ℕ
of_selection (Open.Field f) = suc f.value.value
of_selection (Open.FragmentSpread p) = 1
of_selection (Open.InlineFragment i) = suc i.value.value

abbrev pub of_field : Open.Field-F ℕ ℕ ℕ ℕ → ℕ
of_field f = f.selection_set

abbrev pub of_inline : Open.InlineFragment-F ℕ ℕ ℕ ℕ → ℕ
of_inline i = i.selection_set

abbrev pub of_set : Open.SelectionSet-F ℕ ℕ ℕ ℕ → ℕ
of_set set = suc (sum set.selections.items)

-- how many sets and selections are written in a set, at any depth, itself included; a field has a set, be it empty
unfoldable pub size_of_set : SelectionSet → ℕ
size_of_set set = fold-SelectionSet ℕ ℕ ℕ ℕ of_selection of_field of_inline of_set set

-- how many are written in fragments and in these sets
abbrev pub size_of : {S : Type 0} → IndexMap NameText (Node Fragment) S → List SelectionSet → ℕ
size_of fragments sets = sum_by size_of_set (sets_among fragments) + sum_by size_of_set sets
