-- The place is within the text, and goes on.
use Rattle.std.proofs.Common.{◌-◌, ◌≤◌, length}
use Rattle.graphql_introspection.proofs.constants.is_constant.Given as goal

abbrev pub invariant-loop-place : goal.invariant-loop-place
invariant-loop-place l = l.place ≤ length l.bytes

abbrev pub decreases-loop-place : goal.decreases-loop-place
decreases-loop-place l = length l.bytes - l.place
