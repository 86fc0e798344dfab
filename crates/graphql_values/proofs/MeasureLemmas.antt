-- The entries of an object value are no deeper than the deepest of them.
use Rattle.std.proofs.Common.{◌≡◌, ℕ, ◌≤◌, List, Some, find, subst}
use denote.Param.Weighed.{at_most, most}
use Rattle.graphql_documents.specs.declared.documents.values.Value.{Value, size-Value}
use Rattle.graphql_nodes.specs.Names.{NameText, same_name}
use Rattle.graphql_nodes.specs.declared.nodes.Node.{Node}
use Rattle.graphql_variables.proofs.FirstPlaceLemmas.{found_at}

-- the depth of the deepest of some entries
abbrev pub entries_size : List (NameText × Node Value) → ℕ
entries_size entries = most (λ (e : NameText × Node Value). size-Value e.1.value.value) entries

-- the first entry of a name is no deeper
pub entry_is_no_deeper : (name : NameText) (entries : List (NameText × Node Value)) (e : NameText × Node Value) →
    find (λ e. same_name e.0 name) entries ≡ Some e → size-Value e.1.value.value ≤ entries_size entries
entry_is_no_deeper name entries e found =
    let at = found_at (λ (e : NameText × Node Value). same_name e.0 name) entries e found in
    let size : NameText × Node Value → ℕ = λ e. size-Value e.1.value.value in
    subst (λ (y : NameText × Node Value). size-Value y.1.value.value ≤ entries_size entries) (at.2 e) (at_most size entries at.0 e at.1)
