use Rattle.std.proofs.Common.{◌++◌, List, take}
use Rattle.std.specs.Prelude.{map}
use Rattle.graphql_building_reports.specs.declared.lists.BuildingReport.{BuildingReport}
use Rattle.graphql_building_reports.specs.declared.rules.BuildingRule.{BuildingRule}
use Rattle.graphql_kept_reports.specs.SchemaCuts.{AreDoubtsOf}
use Rattle.graphql_kept_reports.proofs.schema_doubts.SchemaDoubts.add.Given as goal

-- what the reports so far say is in doubt, and what was before
abbrev pub invariant-loop-report : goal.invariant-loop-report
invariant-loop-report l = (found : List BuildingRule) → AreDoubtsOf found l.initial.self →
    AreDoubtsOf (found ++ map (λ (report : BuildingReport). report.rule) (take l.report-index l.report-items)) l.self
