-- The place is within the text, and goes on.
use Rattle.std.proofs.Common.{◌-◌, ◌≤◌, length}
use Rattle.gqlvalidate_patterns.proofs.parsing.parse_parts.Given as goal

abbrev pub invariant-loop-place : goal.invariant-loop-place
invariant-loop-place l = l.place ≤ length l.characters

abbrev pub decreases-loop-place : goal.decreases-loop-place
decreases-loop-place l = length l.characters - l.place
