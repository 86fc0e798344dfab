use Rattle.std.proofs.Common.{take}
use Rattle.graphql_reach.specs.Reach.{ReachAtMost, nodes_at}
use Rattle.graphql_reach.proofs.reach.bytes_at_worst.Given as goal

abbrev pub invariant-loop-operation : goal.invariant-loop-operation
invariant-loop-operation l = ReachAtMost l.document (nodes_at (take l.operation-index l.operations)) l.bytes
