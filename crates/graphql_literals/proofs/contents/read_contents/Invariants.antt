use Rattle.std.proofs.Common.{◌-◌, ◌≤◌, All}
use Rattle.graphql_literals.specs.Literals.{IsHole}
use Rattle.graphql_literals.proofs.contents.read_contents.Given as goal

abbrev pub invariant-loop-at : goal.invariant-loop-at
invariant-loop-at l = (l.literal.start ≤ l.at) × All (IsHole l.bytes l.literal.start l.literal.end) l.holes.items

abbrev pub decreases-loop-at : goal.decreases-loop-at
decreases-loop-at l = l.literal.end - l.at
