-- The items and the entries of a value are less deep than it is.
use Rattle.std.proofs.Common.{◌≡◌, ℕ, ◌+◌, ◌*◌, ◌<◌, Some, length, take}
use Rattle.std.specs.Prelude.{slice_get}
use Rattle.graphql_documents.specs.Values.{SameValue}
use Rattle.graphql_nodes.specs.declared.nodes.Node.{Node}
use Rattle.graphql_documents.specs.declared.documents.values.Value.{Value}
use Rattle.graphql_field_conflicts.specs.Comparisons.{StandIn}
use Rattle.graphql_field_conflicts.proofs.comparisons.equal_values.+equal.Given as goal

abbrev pub decreases-is_same_value : goal.decreases-is_same_value
decreases-is_same_value l = 4 * goal.size-is_same_value l + 3

abbrev pub decreases-have_same_items : goal.decreases-have_same_items
decreases-have_same_items l = 4 * goal.size-have_same_items l + 4

abbrev pub decreases-have_same_entries : goal.decreases-have_same_entries
decreases-have_same_entries l = 4 * goal.size-have_same_entries l + 6

abbrev pub decreases-stands_in : goal.decreases-stands_in
decreases-stands_in l = 4 * goal.size-stands_in l + 4

abbrev pub invariant-have_same_items-loop-x : goal.invariant-have_same_items-loop-x
invariant-have_same_items-loop-x l =
    (k : ℕ) (x y : Node Value) → k < length l.yielded → slice_get l.a k ≡ Some x → slice_get l.b k ≡ Some y → SameValue x.value.value y.value.value

-- the entries so far have been seen, and stand in the others
abbrev pub invariant-have_same_entries-loop-i : goal.invariant-have_same_entries-loop-i
invariant-have_same_entries-loop-i l = record { stand : StandIn (take l.i l.a) l.b; seen : l.seen ≡ take l.i l.a }
