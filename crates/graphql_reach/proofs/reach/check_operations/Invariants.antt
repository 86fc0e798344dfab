use Rattle.std.proofs.Common.{◌≤◌, take}
use Rattle.graphql_reach.specs.Reach.{HaveReach, nodes_at}
use Rattle.graphql_reach.proofs.reach.check_operations.Given as goal

abbrev pub invariant-loop-operation : goal.invariant-loop-operation
invariant-loop-operation l = record {
  have : HaveReach l.document (nodes_at (take l.operation-index l.operations)) l.bytes;
  within : l.bytes ≤ l.most;
}
