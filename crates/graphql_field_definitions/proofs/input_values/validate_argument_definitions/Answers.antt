use Rattle.graphql_diagnostics.proofs.ReportLemmas.{checks-err, kept_wider}
use Rattle.graphql_variables.proofs.ReferenceLemmas.{referred}
use Rattle.graphql_field_definitions.proofs.InputValueLemmas.{argument_definitions_checked, names_argument}
use Rattle.graphql_field_definitions.proofs.input_values.validate_argument_definitions.Goals as goal

pub returns-in_err-validate_input_value_definitions-clause-checks : goal.returns-in_err-validate_input_value_definitions-clause-checks
returns-in_err-validate_input_value_definitions-clause-checks c =
    checks-err _ _ _ _ _ c.from_residual.ensures.0
    (kept_wider (names_argument c.args.schema.now c.args.location (referred c.args.arguments.now)) c.in_err-validate_input_value_definitions.ensures.checks)

pub returns-clause-checks : goal.returns-clause-checks
returns-clause-checks c =
    argument_definitions_checked c.args.schema.now c.args.location (referred c.args.arguments.now) c.validate_distinct_arguments.result _ _ _
    c.in_ok-validate_input_value_definitions.ensures.checks c.validate_distinct_arguments.ensures
