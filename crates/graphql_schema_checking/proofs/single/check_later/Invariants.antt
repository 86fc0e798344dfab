use Rattle.std.proofs.Common.{◌∷◌, All, take}
use Rattle.graphql_diagnostics.specs.Reports.{Reports}
use Rattle.graphql_building_reports.specs.Checks.{reports_of}
use Rattle.graphql_schema_checking.specs.SchemaReports.{LaterReport}
use Rattle.graphql_schema_checking.specs.Steps.{single_rule}
use Rattle.graphql_schema_checking.proofs.single.check_later.Given as goal

abbrev pub invariant-loop-place : goal.invariant-loop-place
invariant-loop-place l = Reports (All (λ place. ⊥) (take l.place-index l.later)) (LaterReport (l.original ∷ l.later) (single_rule l.what))
    (reports_of l.initial.reports) (reports_of l.reports)
