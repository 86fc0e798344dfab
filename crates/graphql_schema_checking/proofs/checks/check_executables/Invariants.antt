use Rattle.std.proofs.Common.{All, IsFalse, take}
use Rattle.graphql_diagnostics.specs.Reports.{Reports}
use Rattle.graphql_building_reports.specs.Checks.{reports_of}
use Rattle.graphql_schema_checking.specs.Definitions.{is_executable}
use Rattle.graphql_schema_checking.specs.SchemaReports.{ExecutableReport}
use Rattle.graphql_repetitions.specs.References.{nows}
use Rattle.graphql_schema_checking.proofs.checks.check_executables.Given as goal

abbrev pub invariant-loop-definition : goal.invariant-loop-definition
invariant-loop-definition l = Reports (All (λ d. IsFalse (is_executable d)) (nows (take l.definition-index l.definitions))) (ExecutableReport (nows l.definitions)) (reports_of l.initial.reports) (reports_of l.reports)
