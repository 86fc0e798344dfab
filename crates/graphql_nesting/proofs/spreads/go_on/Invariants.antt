use Rattle.std.proofs.Common.{◌-◌, length}
use Rattle.graphql_nesting.specs.Spreads.{GoesOn}
use Rattle.graphql_nesting.proofs.spreads.go_on.Given as goal

abbrev pub invariant-loop-progress : goal.invariant-loop-progress
invariant-loop-progress l = GoesOn l.known l.spreads l.initial.progress l.progress

abbrev pub decreases-loop-progress : goal.decreases-loop-progress
decreases-loop-progress l = length l.spreads - l.progress.next
