use Rattle.graphql_schema_ways.specs.Ways.{Reaches}
use Rattle.graphql_schema_ways.proofs.ways.Search.reach_conditions.Given as goal

abbrev pub invariant-loop-other : goal.invariant-loop-other
invariant-loop-other l = Reaches l.schema l.fn.self.steps.items l.self.steps.items
