use Rattle.std.proofs.Common.{◌-◌, ◌≤◌, length, All}
use Rattle.graphql_literals.specs.Literals.{IsPlucked}
use Rattle.graphql_literals.proofs.literals.literals_in.Given as goal

abbrev pub invariant-loop-all : goal.invariant-loop-all
invariant-loop-all l = (l.at ≤ length l.bytes) × All (IsPlucked l.bytes) l.all.items

abbrev pub decreases-loop-all : goal.decreases-loop-all
decreases-loop-all l = length l.bytes - l.at
