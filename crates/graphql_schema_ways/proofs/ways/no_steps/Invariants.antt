use Rattle.std.proofs.Common.{◌≡◌, ℕ, Some}
use Rattle.graphql_schema_ways.specs.Ways.{step_at}
use Rattle.graphql_schema_ways.specs.declared.ways.Step.{Step}
use Rattle.graphql_schema_ways.proofs.ways.no_steps.Given as goal

abbrev pub invariant-loop : goal.invariant-loop
invariant-loop l = (index : ℕ) (s : Step) → step_at l.steps.items index ≡ Some s → ⊥
