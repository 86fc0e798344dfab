use Rattle.std.proofs.Common.{All, IsFalse, take}
use Rattle.graphql_diagnostics.specs.Reports.{Reports}
use Rattle.graphql_building_reports.specs.Checks.{reports_of}
use Rattle.graphql_schema_checking.specs.Definitions.{redefines_scalar}
use Rattle.graphql_schema_checking.specs.SchemaReports.{ScalarReport}
use Rattle.graphql_repetitions.specs.References.{nows}
use Rattle.graphql_schema_checking.proofs.checks.check_scalars.Given as goal

abbrev pub invariant-loop-definition : goal.invariant-loop-definition
invariant-loop-definition l = Reports (All (λ d. IsFalse (redefines_scalar d)) (nows (take l.definition-index l.types))) (ScalarReport (nows l.types)) (reports_of l.initial.reports) (reports_of l.reports)
