use Rattle.graphql_schema_ways.specs.Ways.{Reaches}
use Rattle.graphql_schema_ways.proofs.ways.Search.go_on.Given as goal

abbrev pub invariant-loop-position : goal.invariant-loop-position
invariant-loop-position l = Reaches l.schema l.fn.self.steps.items l.self.steps.items
