-- The names, the fields, their types and their arguments, one after another.
use Rattle.graphql_diagnostics.specs.Diagnostics.{IsDiagnostic}
use Rattle.graphql_specification.specs.Implementations.{ImplementationReport}
use Rattle.graphql_diagnostics.proofs.ReportLemmas.{both, checks-err, checks_after, checks_words, kept_by, kept_then, kept_wider, wider}
use Rattle.graphql_schemas.proofs.TypeLemmas.{implementations_decide, names_field_arguments, names_field_types, names_interface_fields, names_interfaces}
use Rattle.graphql_schemas.proofs.implementing_types.validate_implementations.Goals as goal

pub returns-in_err-validate_implements_interfaces : goal.returns-in_err-validate_implements_interfaces
returns-in_err-validate_implements_interfaces c = λ d are.
    checks-err _ _ _ _ _ c.from_residual.ensures.0
    (kept_wider (names_interfaces c.args.schema.now d are) c.in_err-validate_implements_interfaces.ensures)

pub returns-in_err-validate_interface_fields : goal.returns-in_err-validate_interface_fields
returns-in_err-validate_interface_fields c = λ d are.
    let schema = c.args.schema.now in
    checks-err _ _ _ _ _ c.from_residual-in_err-validate_interface_fields.ensures.0
    (kept_then (kept_by (wider (names_interfaces schema d are) c.in_ok-validate_implements_interfaces.ensures))
    (kept_wider (names_interface_fields schema d are) c.in_err-validate_interface_fields.ensures))

pub returns-in_err-validate_implementation_field_types : goal.returns-in_err-validate_implementation_field_types
returns-in_err-validate_implementation_field_types c = λ d are.
    let schema = c.args.schema.now in
    checks-err _ _ _ _ _ c.from_residual-in_err-validate_implementation_field_types.ensures.0
    (kept_then
    (kept_by (both (wider (names_interfaces schema d are) c.in_ok-validate_implements_interfaces.ensures)
    (wider (names_interface_fields schema d are) c.in_ok-validate_interface_fields.ensures)))
    (kept_wider (names_field_types schema d are) c.in_err-validate_implementation_field_types.ensures))

pub returns : goal.returns
returns c = λ d are.
    let schema = c.args.schema.now in
    let says = IsDiagnostic (ImplementationReport schema d) in
    let last = c.validate_implementation_field_arguments.result in
    checks_words last _ _ says says _ _ (implementations_decide schema c.args.fields.now.entries c.args.interfaces.now.keys) (λ e q. q)
    (checks_after last _ _ says _ _ _
    (both
    (both (wider (names_interfaces schema d are) c.in_ok-validate_implements_interfaces.ensures)
    (wider (names_interface_fields schema d are) c.in_ok-validate_interface_fields.ensures))
    (wider (names_field_types schema d are) c.in_ok-validate_implementation_field_types.ensures))
    (checks_words last _ _ _ says _ _ (λ h. h, λ h. h) (names_field_arguments schema d are) c.validate_implementation_field_arguments.ensures))
