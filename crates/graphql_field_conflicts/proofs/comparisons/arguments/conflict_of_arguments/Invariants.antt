use Rattle.std.proofs.Common.{take}
use Rattle.graphql_field_conflicts.specs.Comparisons.{StandAmong}
use Rattle.graphql_field_conflicts.proofs.comparisons.arguments.conflict_of_arguments.Given as goal

abbrev pub invariant-loop-i : goal.invariant-loop-i
invariant-loop-i l = StandAmong (take l.i l.arguments) l.others
