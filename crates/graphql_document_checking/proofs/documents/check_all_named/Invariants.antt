use Rattle.std.proofs.Common.{All, IsFalse, take}
use Rattle.std.specs.Prelude.{is_none}
use Rattle.graphql_diagnostics.specs.Reports.{Reports}
use Rattle.graphql_building_reports.specs.Checks.{reports_of}
use Rattle.graphql_repetitions.specs.References.{nows}
use Rattle.graphql_document_checking.specs.DocumentReports.{AnonymousOperationReport}
use Rattle.graphql_document_checking.proofs.documents.check_all_named.Given as goal

abbrev pub invariant-loop-operation : goal.invariant-loop-operation
invariant-loop-operation l =
    Reports (All (λ x. IsFalse (is_none x.name)) (nows (take l.operation-index l.operations))) (AnonymousOperationReport (nows l.operations))
    (reports_of l.initial.reports) (reports_of l.reports)
