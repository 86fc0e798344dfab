use Rattle.std.proofs.Common.{◌≡◌, ap, ◌∙◌}
use Rattle.graphql_diagnostics.specs.Diagnostics.{IsDiagnostic}
use Rattle.graphql_specification.specs.Types.{EnumValueReport}
use Rattle.graphql_documents.specs.declared.documents.definitions.EnumValueDefinition.{EnumValueDefinition}
use Rattle.graphql_diagnostics.proofs.ReportLemmas.{checks-err, checks_after, checks_words, kept_wider, wider}
use Rattle.graphql_schemas.proofs.TypeLemmas.{enum_value_decides, names_value_directives, names_value_name}
use Rattle.graphql_schemas.proofs.enums.validate_enum_value.Goals as goal

pub returns-in_err-validate_type_system_name : goal.returns-in_err-validate_type_system_name
returns-in_err-validate_type_system_name c =
    checks-err _ _ _ _ _ c.from_residual.ensures.0
    (kept_wider (names_value_name c.args.schema.now c.args.enum_value.now) (rw c.deref.ensures at c.in_err-validate_type_system_name.ensures))

pub returns : goal.returns
returns c =
    let schema = c.args.schema.now in
    let d = c.args.enum_value.now in
    let says = IsDiagnostic (EnumValueReport schema d) in
    let directives_are : c.deref-3.result.now ≡ d.value.value.directives.items =
    c.deref-3.ensures.value ∙ ap (λ (x : EnumValueDefinition). x.directives.items) c.deref-2.ensures in
    let applied = rw directives_are at c.validate_definition_directives.ensures in
    checks_words c.validate_definition_directives.result _ _ says says _ _ (enum_value_decides schema d.value.value) (λ e q. q)
    (checks_after c.validate_definition_directives.result _ _ says _ _ _
    (wider (names_value_name schema d) (rw c.deref.ensures at c.in_ok-validate_type_system_name.ensures))
    (checks_words c.validate_definition_directives.result _ _ _ says _ _ (λ h. h, λ h. h) (names_value_directives schema d) applied))
