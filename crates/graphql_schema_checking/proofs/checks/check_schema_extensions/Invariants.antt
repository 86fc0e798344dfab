use Rattle.std.proofs.Common.{All, IsTrue, take}
use Rattle.graphql_diagnostics.specs.Reports.{Reports}
use Rattle.graphql_building_reports.specs.Checks.{reports_of}
use Rattle.graphql_schema_checking.specs.SchemaReports.{OrphanSchemaReport}
use Rattle.graphql_repetitions.specs.References.{nows}
use Rattle.graphql_schema_checking.proofs.checks.check_schema_extensions.Given as goal

abbrev pub invariant-loop-extension : goal.invariant-loop-extension
invariant-loop-extension l = Reports (All (λ e. IsTrue l.has_schema) (nows (take l.extension-index l.extensions))) (OrphanSchemaReport l.has_schema (nows l.extensions)) (reports_of l.initial.reports) (reports_of l.reports)
