-- One check after another, each in words of the definition.
use Rattle.std.proofs.Common.{◌≡◌, ap, ◌∙◌}
use Rattle.graphql_diagnostics.proofs.ReportLemmas.{kept_by, kept_then, kept_wider, wider}
use Rattle.graphql_diagnostics.proofs.ReportWithinLemmas.{checks_refused_within}
use Rattle.graphql_diagnostics.specs.Diagnostics.{IsLimitEntry}
use Rattle.graphql_variables.proofs.FirstPlaceLemmas.{holds_on_ok}
use Rattle.graphql_variables.proofs.ReferenceLemmas.{referred}
use Rattle.graphql_schemas.proofs.DirectiveDefinitionLemmas.{definition_checked, names_definition_arguments, names_definition_name}
use Rattle.graphql_schemas.proofs.directive_definitions.validate_definition_by_levels.Goals as goal

pub returns-in_err-validate_type_system_name-clause-checks : goal.returns-in_err-validate_type_system_name-clause-checks
returns-in_err-validate_type_system_name-clause-checks c =
    checks_refused_within IsLimitEntry _ _ _ _ _ c.from_residual-in_err-validate_type_system_name.ensures.0
    (kept_wider (names_definition_name c.args.levels.now.schema.now c.args.definition.now) (rw c.deref-3.ensures at c.in_err-validate_type_system_name.ensures))

pub returns-in_err-validate_argument_definitions-clause-checks : goal.returns-in_err-validate_argument_definitions-clause-checks
returns-in_err-validate_argument_definitions-clause-checks c =
    let d = c.args.definition.now in
    let arguments_are : referred c.deref-4.result.now ≡ d.value.value.arguments.items =
    ap referred c.deref-4.ensures.value ∙ c.in_ok-arguments.ensures ∙ c.deref-2.ensures.value ∙ ap (λ x. x.arguments.items) c.deref.ensures in
    checks_refused_within IsLimitEntry _ _ _ _ _ c.from_residual-in_err-validate_argument_definitions.ensures.0
    (kept_then
    (kept_by (wider (names_definition_name c.args.levels.now.schema.now d) (rw c.deref-3.ensures at c.in_ok-validate_type_system_name.ensures)))
    (kept_wider (names_definition_arguments c.args.levels.now.schema.now d) (rw arguments_are at c.in_err-validate_argument_definitions.ensures.checks)))

pub returns-clause-checks : goal.returns-clause-checks
returns-clause-checks c =
    let d = c.args.definition.now in
    let arguments_are : referred c.deref-4.result.now ≡ d.value.value.arguments.items =
    ap referred c.deref-4.ensures.value ∙ c.in_ok-arguments.ensures ∙ c.deref-2.ensures.value ∙ ap (λ x. x.arguments.items) c.deref.ensures in
    definition_checked c.args.levels.now.schema.now d c.validate_directive_cycles_by_levels.result _ _ _ _
    (rw c.deref-3.ensures at c.in_ok-validate_type_system_name.ensures)
    (rw arguments_are at c.in_ok-validate_argument_definitions.ensures.checks)
    c.validate_directive_cycles_by_levels.ensures

pub returns-clause-records : goal.returns-clause-records
returns-clause-records c =
    let d = c.args.definition.now in
    let arguments_are : referred c.deref-4.result.now ≡ d.value.value.arguments.items =
    ap referred c.deref-4.ensures.value ∙ c.in_ok-arguments.ensures ∙ c.deref-2.ensures.value ∙ ap (λ x. x.arguments.items) c.deref.ensures in
    holds_on_ok c.validate_directive_cycles_by_levels.result _ (rw arguments_are at c.in_ok-validate_argument_definitions.ensures.records)

pub returns-clause-keeps : goal.returns-clause-keeps
returns-clause-keeps c = c.in_ok-validate_argument_definitions.ensures.keeps
