use Rattle.std.proofs.Common.{ℕ, List, ◌++◌}
use Rattle.graphql_nodes.specs.declared.operation_types.OperationType.{OperationType}
use Rattle.graphql_schema_ways.specs.Ways.{IsWay, StepsLead}
use Rattle.graphql_schema_ways.proofs.ways.Ways.way_to.Given as goal

abbrev pub invariant-loop : goal.invariant-loop
invariant-loop l =
    StepsLead l.self.schema.now l.self.steps.items → (operation : OperationType) (rest : List ℕ) → IsWay l.self.schema.now operation l.at rest →
    IsWay l.self.schema.now operation l.place (l.indices.items ++ rest)
