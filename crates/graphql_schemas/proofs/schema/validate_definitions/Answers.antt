use Rattle.graphql_diagnostics.specs.Diagnostics.{IsLimitEntry}
use Rattle.graphql_diagnostics.proofs.ReportLemmas.{kept_by, kept_then, kept_wider}
use Rattle.graphql_diagnostics.proofs.ReportWithinLemmas.{checks_refused_within}
use Rattle.graphql_field_definitions.proofs.BuiltInScalarLemmas.{records_on_ok}
use Rattle.graphql_schemas.proofs.SchemaLemmas.{definition_breaks, directives_break, parts_checked}
use Rattle.graphql_schemas.proofs.schema.validate_definitions.Goals as goal

pub returns-in_err-validate_schema_definition-clause-checks : goal.returns-in_err-validate_schema_definition-clause-checks
returns-in_err-validate_schema_definition-clause-checks c =
    checks_refused_within IsLimitEntry _ _ _ _ _ c.from_residual.ensures.0 (kept_wider (definition_breaks c.args.schema.now) c.in_err-validate_schema_definition.ensures)

pub returns-in_err-validate_directive_definitions-clause-checks : goal.returns-in_err-validate_directive_definitions-clause-checks
returns-in_err-validate_directive_definitions-clause-checks c =
    let S = c.args.schema.now in
    checks_refused_within IsLimitEntry _ _ _ _ _ c.from_residual-in_err-validate_directive_definitions.ensures.0
    (kept_then (kept_wider (definition_breaks S) (kept_by c.in_ok-validate_schema_definition.ensures))
    (kept_wider (directives_break S) c.in_err-validate_directive_definitions.ensures.checks))

pub returns-clause-checks : goal.returns-clause-checks
returns-clause-checks c =
    parts_checked c.args.schema.now c.validate_types.result _ _ _ _ c.in_ok-validate_schema_definition.ensures c.in_ok-validate_directive_definitions.ensures.checks
    c.validate_types.ensures.checks

pub returns-clause-records : goal.returns-clause-records
returns-clause-records c =
    records_on_ok c.validate_types.result _ _ _ _ _ c.in_ok-validate_directive_definitions.ensures.records c.validate_types.ensures.records
