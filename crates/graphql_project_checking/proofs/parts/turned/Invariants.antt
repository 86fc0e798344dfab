use Rattle.std.proofs.Common.{◌≡◌, ◌++◌, length}
use Rattle.std.specs.Prelude.{reverse}
use Rattle.graphql_project_checking.proofs.parts.turned.Given as goal

abbrev pub decreases-loop-definition : goal.decreases-loop-definition
decreases-loop-definition l = length l.definitions

abbrev pub invariant-loop-definition : goal.invariant-loop-definition
invariant-loop-definition l = reverse l.initial.definitions ≡ l.turned ++ reverse l.definitions
