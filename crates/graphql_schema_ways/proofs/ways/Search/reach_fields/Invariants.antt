use Rattle.graphql_schema_ways.specs.Ways.{Reaches}
use Rattle.graphql_schema_ways.proofs.ways.Search.reach_fields.Given as goal

abbrev pub invariant-loop-name : goal.invariant-loop-name
invariant-loop-name l = record {
  can_next : (goal.iterator-loop-name).can_next l.name-iterator;
  is_finite : (goal.iterator-loop-name).is_finite l.name-iterator;
  reaches : Reaches l.schema l.fn.self.steps.items l.self.steps.items;
}
