-- One check after another, each in words of the field.
use Rattle.std.proofs.Common.{◌≡◌, ap, ◌∙◌}
use Rattle.graphql_diagnostics.proofs.ReportLemmas.{checks-err, kept_by, kept_then, kept_wider, wider}
use Rattle.graphql_variables.proofs.ReferenceLemmas.{referred}
use Rattle.graphql_field_definitions.proofs.FieldDefinitionLemmas.{field_checked, names_field_directives, names_field_name}
use Rattle.graphql_field_definitions.proofs.fields.validate_field_definition.Goals as goal

pub returns-in_err-validate_type_system_name-clause-checks : goal.returns-in_err-validate_type_system_name-clause-checks
returns-in_err-validate_type_system_name-clause-checks c =
    checks-err _ _ _ _ _ c.from_residual-in_err-validate_type_system_name.ensures.0
    (kept_wider (names_field_name c.args.schema.now c.args.field.now) (rw c.deref-3.ensures at c.in_err-validate_type_system_name.ensures))

pub returns-in_err-validate_definition_directives-clause-checks : goal.returns-in_err-validate_definition_directives-clause-checks
returns-in_err-validate_definition_directives-clause-checks c =
    let d = c.args.field.now in
    let directives_are : c.deref-5.result.now ≡ d.value.value.directives.items = c.deref-5.ensures.value ∙ ap (λ x. x.directives.items) c.deref-4.ensures in
    checks-err _ _ _ _ _ c.from_residual-in_err-validate_definition_directives.ensures.0
    (kept_then
    (kept_by (wider (names_field_name c.args.schema.now d) (rw c.deref-3.ensures at c.in_ok-validate_type_system_name.ensures)))
    (kept_wider (names_field_directives c.args.schema.now d) (rw directives_are at c.in_err-validate_definition_directives.ensures)))

pub returns-clause-checks : goal.returns-clause-checks
returns-clause-checks c =
    let d = c.args.field.now in
    let directives_are : c.deref-5.result.now ≡ d.value.value.directives.items = c.deref-5.ensures.value ∙ ap (λ x. x.directives.items) c.deref-4.ensures in
    let arguments_are : referred c.deref-6.result.now ≡ d.value.value.arguments.items =
    ap referred c.deref-6.ensures.value ∙ c.in_ok-arguments.ensures ∙ c.deref-2.ensures.value ∙ ap (λ x. x.arguments.items) c.deref.ensures in
    field_checked c.args.schema.now d c.validate_argument_definitions.result _ _ _ _
    (rw c.deref-3.ensures at c.in_ok-validate_type_system_name.ensures)
    (rw directives_are at c.in_ok-validate_definition_directives.ensures)
    (rw arguments_are at c.validate_argument_definitions.ensures.checks)

pub returns-clause-records : goal.returns-clause-records
returns-clause-records c =
    let d = c.args.field.now in
    let arguments_are : referred c.deref-6.result.now ≡ d.value.value.arguments.items =
    ap referred c.deref-6.ensures.value ∙ c.in_ok-arguments.ensures ∙ c.deref-2.ensures.value ∙ ap (λ x. x.arguments.items) c.deref.ensures in
    rw arguments_are at c.validate_argument_definitions.ensures.records
