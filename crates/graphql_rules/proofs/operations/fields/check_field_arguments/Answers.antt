use Rattle.graphql_diagnostics.proofs.ReportLemmas.{checks-err, kept_wider}
use Rattle.graphql_operations.specs.Contexts.{variables_of}
use Rattle.graphql_rules.proofs.FieldLemmas.{arguments_checked, names_given}
use Rattle.graphql_rules.proofs.operations.fields.check_field_arguments.Goals as goal

pub returns-in_err-validate_given_arguments : goal.returns-in_err-validate_given_arguments
returns-in_err-validate_given_arguments c =
    checks-err _ _ _ _ _ c.from_residual.ensures.0
    (kept_wider
    (names_given c.args.schema.now (variables_of c.args.context.now) c.args.parent.now c.args.field.now c.args.definition.now c.requires.found
    c.of_field-arguments.result c.of_field-arguments.ensures)
    c.in_err-validate_given_arguments.ensures)

pub returns : goal.returns
returns c =
    arguments_checked c.args.schema.now (variables_of c.args.context.now) c.args.parent.now c.args.field.now c.args.definition.now c.requires.found
    c.of_field-arguments.result c.of_field-arguments.ensures
    _ _ _ _ c.in_ok-validate_given_arguments.ensures c.validate_required_arguments.ensures
