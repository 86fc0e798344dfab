-- One check after another, each in words of the argument or input field.
use Rattle.std.proofs.Common.{◌≡◌, ap, ◌∙◌}
use Rattle.graphql_diagnostics.proofs.ReportLemmas.{checks-err, kept_by, kept_then, kept_wider, wider}
use Rattle.graphql_field_definitions.proofs.InputValueLemmas.{input_value_checked, names_directives, names_name}
use Rattle.graphql_field_definitions.proofs.input_values.validate_input_value.Goals as goal

pub returns-in_err-validate_type_system_name-clause-checks : goal.returns-in_err-validate_type_system_name-clause-checks
returns-in_err-validate_type_system_name-clause-checks c =
    let d = c.args.input_value.now in
    checks-err _ _ _ _ _ c.from_residual.ensures.0
    (kept_wider (names_name c.args.schema.now c.args.location c.args.describe.now d)
    (rw c.deref.ensures at c.in_err-validate_type_system_name.ensures))

pub returns-in_err-validate_definition_directives-clause-checks : goal.returns-in_err-validate_definition_directives-clause-checks
returns-in_err-validate_definition_directives-clause-checks c =
    let d = c.args.input_value.now in
    let directives_are : c.deref-3.result.now ≡ d.value.value.directives.items = c.deref-3.ensures.value ∙ ap (λ x. x.directives.items) c.deref-2.ensures in
    checks-err _ _ _ _ _ c.from_residual-in_err-validate_definition_directives.ensures.0
    (kept_then
    (kept_by (wider (names_name c.args.schema.now c.args.location c.args.describe.now d)
    (rw c.deref.ensures at c.in_ok-validate_type_system_name.ensures)))
    (kept_wider (names_directives c.args.schema.now c.args.location c.args.describe.now d)
    (rw directives_are at c.in_err-validate_definition_directives.ensures)))

pub returns-clause-checks : goal.returns-clause-checks
returns-clause-checks c =
    let d = c.args.input_value.now in
    let directives_are : c.deref-3.result.now ≡ d.value.value.directives.items = c.deref-3.ensures.value ∙ ap (λ x. x.directives.items) c.deref-2.ensures in
    input_value_checked c.args.schema.now c.args.location c.args.describe.now d c.validate_input_type.result _ _ _ _
    (rw c.deref.ensures at c.in_ok-validate_type_system_name.ensures)
    (rw directives_are at c.in_ok-validate_definition_directives.ensures)
    c.validate_input_type.ensures.checks
