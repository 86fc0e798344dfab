-- The place is within the text, and goes on.
use Rattle.std.proofs.Common.{◌-◌, ◌≤◌, length}
use Rattle.graphql_introspection.proofs.constants.end_of_block.Given as goal

abbrev pub invariant-loop-place : goal.invariant-loop-place
invariant-loop-place l = (l.fn.from ≤ l.place) × (l.place ≤ length l.text)

abbrev pub decreases-loop-place : goal.decreases-loop-place
decreases-loop-place l = length l.text - l.place
