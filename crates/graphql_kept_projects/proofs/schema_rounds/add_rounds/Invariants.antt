use Rattle.std.specs.Prelude.{List}
use Rattle.graphql_kept_reports.specs.BuildingRule.{BuildingRule}
use Rattle.graphql_kept_reports.specs.Reports.{KeepsReports}
use Rattle.graphql_kept_projects.specs.Left.{IsLeft}
use Rattle.graphql_kept_projects.specs.Schemas.{AreTrueOfLeftSchema, IsInDoubt}
use Rattle.graphql_kept_projects.proofs.schema_rounds.add_rounds.Given as goal

-- something is left of the texts, what was in doubt still is, what was found stays, and what is added is true of what is left
abbrev pub invariant-loop : goal.invariant-loop
invariant-loop l = record {
  left : IsLeft l.whole l.left;
  in_doubt : (first : List BuildingRule) → IsInDoubt first l.initial.doubts → IsInDoubt first l.doubts;
  adds : (first : List BuildingRule) → IsInDoubt first l.initial.doubts → KeepsReports (AreTrueOfLeftSchema l.bounds l.whole first) l.initial.further.items l.further.items;
}
