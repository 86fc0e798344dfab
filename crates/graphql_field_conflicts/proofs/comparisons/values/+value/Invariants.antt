-- The items and the entries of a value are less deep than it is.
use Rattle.std.proofs.Common.{◌≡◌, ℕ, ◌+◌, ◌*◌, ◌<◌, Some, length, take}
use Rattle.std.specs.Prelude.{slice_get}
use Rattle.graphql_documents.specs.Values.{SameValue}
use Rattle.graphql_nodes.specs.declared.nodes.Node.{Node}
use Rattle.graphql_documents.specs.declared.documents.values.Value.{Value}
use Rattle.graphql_field_conflicts.specs.Comparisons.{StandIn}
use Rattle.graphql_field_conflicts.proofs.comparisons.values.+value.Given as goal

abbrev pub decreases-same_value : goal.decreases-same_value
decreases-same_value l = 4 * goal.size-same_value l + 3

abbrev pub decreases-same_items : goal.decreases-same_items
decreases-same_items l = 4 * goal.size-same_items l + 4

abbrev pub decreases-same_entries : goal.decreases-same_entries
decreases-same_entries l = 4 * goal.size-same_entries l + 6

abbrev pub decreases-stand_in : goal.decreases-stand_in
decreases-stand_in l = 4 * goal.size-stand_in l + 5

abbrev pub decreases-stands_in : goal.decreases-stands_in
decreases-stands_in l = 4 * goal.size-stands_in l + 4

abbrev pub invariant-same_items-loop-x : goal.invariant-same_items-loop-x
invariant-same_items-loop-x l =
    (k : ℕ) (x y : Node Value) → k < length l.yielded → slice_get l.a k ≡ Some x → slice_get l.b k ≡ Some y → SameValue x.value.value y.value.value

abbrev pub invariant-stand_in-loop-i : goal.invariant-stand_in-loop-i
invariant-stand_in-loop-i l = StandIn (take l.i l.entries) l.others
