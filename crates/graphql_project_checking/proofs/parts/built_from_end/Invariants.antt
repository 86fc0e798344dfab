use Rattle.std.proofs.Common.{length}
use Rattle.graphql_project_checking.proofs.PartTruthLemmas.{Takes}
use Rattle.graphql_project_checking.proofs.parts.built_from_end.Given as goal

abbrev pub decreases-loop-definition : goal.decreases-loop-definition
decreases-loop-definition l = length l.definitions

-- the definitions that were taken and can be built are kept
abbrev pub invariant-loop-definition : goal.invariant-loop-definition
invariant-loop-definition l = Takes l.schema l.initial.definitions l.definitions l.kept
