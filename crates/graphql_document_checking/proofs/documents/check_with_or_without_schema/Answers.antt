use Rattle.std.proofs.Common.{All, subst}
use Rattle.std.specs.Option.{option_copied}
use Rattle.graphql_diagnostics.proofs.ReportLemmas.{ChecksList, checks-err, checks_after, checks_words, kept_by, kept_then, kept_wider, wider}
use Rattle.graphql_building_reports.specs.Checks.{reports_of}
use Rattle.graphql_document_building.specs.BuildingRules.{DefinitionBuilds}
use Rattle.graphql_document_checking.specs.DefinitionReports.{IsReportOfDefinitions}
use Rattle.graphql_document_checking.specs.DocumentReports.{of_anonymous_operation, of_definition, of_fragment_name, of_operation_name}
use Rattle.graphql_document_checking.proofs.DocumentLemmas.{builds_words}
use Rattle.graphql_document_checking.proofs.documents.check_with_or_without_schema.Goals as goal

pub returns-in_err-check_anonymous_operations : goal.returns-in_err-check_anonymous_operations
returns-in_err-check_anonymous_operations c =
    checks-err _ _ _ _ _ c.from_residual.ensures.0 (kept_wider (λ e q. of_anonymous_operation q) c.in_err-check_anonymous_operations.ensures)

pub returns-in_err-check_operation_names : goal.returns-in_err-check_operation_names
returns-in_err-check_operation_names c =
    checks-err _ _ _ _ _ c.from_residual-in_err-check_operation_names.ensures.0
    (kept_then (kept_wider (λ e q. of_anonymous_operation q) (kept_by c.in_ok-check_anonymous_operations.ensures))
    (kept_wider (λ e q. of_operation_name q) c.in_err-check_operation_names.ensures))

pub returns-in_err-check_fragment_names : goal.returns-in_err-check_fragment_names
returns-in_err-check_fragment_names c =
    checks-err _ _ _ _ _ c.from_residual-in_err-check_fragment_names.ensures.0
    (kept_then (kept_wider (λ e q. of_anonymous_operation q) (kept_by c.in_ok-check_anonymous_operations.ensures))
    (kept_then (kept_wider (λ e q. of_operation_name q) (kept_by c.in_ok-check_operation_names.ensures))
    (kept_wider (λ e q. of_fragment_name q) c.in_err-check_fragment_names.ensures)))

pub returns : goal.returns
returns c =
    let schema = option_copied c.args.schema in
    let old = reports_of c.check_fragment_names.new.reports in
    let new = reports_of c.check_definitions.new.reports in
    checks_words c.check_definitions.result _ _ _ _ _ _ (builds_words schema c.args.tree.now) (λ e q. q)
    (checks_after _ _ _ _ _ _ _ (wider (λ e q. of_anonymous_operation q) c.in_ok-check_anonymous_operations.ensures)
    (checks_after _ _ _ _ _ _ _ (wider (λ e q. of_operation_name q) c.in_ok-check_operation_names.ensures)
    (checks_after _ _ _ _ _ _ _ (wider (λ e q. of_fragment_name q) c.in_ok-check_fragment_names.ensures)
    (checks_words c.check_definitions.result _ _ _ _ old new (λ h. h, λ h. h) (λ e q. of_definition q)
    (subst (λ l. ChecksList c.check_definitions.result (All (DefinitionBuilds schema) l) (IsReportOfDefinitions schema l) old new) c.as_slice.ensures c.check_definitions.ensures)))))
