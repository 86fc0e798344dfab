-- The argument is not defined, or is not allowed there, or its value decides.
use Rattle.std.proofs.Common.{◌≡◌, Some, sym, ap, ◌∙◌, rules}
use Rattle.graphql_documents.specs.declared.documents.directives.Argument.{Argument}
use Rattle.graphql_specification.specs.Arguments.{IsDefined}
use Rattle.graphql_documents.specs.Definitions.{definition_named}
use Rattle.graphql_specification.specs.VariableUsages.{UsageHolds}
use Rattle.graphql_diagnostics.proofs.ReportLemmas.{both, checks-err, checks_words, in_words, kept_by, kept_then, kept_wider, wider}
use Rattle.graphql_values.proofs.GivenLemmas.{names_misuse, names_wrong_value, usage_needed, given_decides}
use Rattle.graphql_values.proofs.argument.given.validate_given_argument.Goals as goal

pub returns-in_default : goal.returns-in_default
returns-in_default c =
    let undefined : ¬ IsDefined c.args.arguments.now.definitions.now c.args.argument.now = search rules in
    checks_words c.report_undefined_argument.result _ _ _ _ _ _ (λ x. absurd x, λ h. absurd (undefined h.defined))
    (λ e said. said) (c.report_undefined_argument.ensures c.args.schema.now c.args.variables.now)

pub returns-in_err-check_variable_usage : goal.returns-in_err-check_variable_usage
returns-in_err-check_variable_usage c =
    let found : definition_named c.args.argument.now.value.value.name c.args.arguments.now.definitions.now ≡ Some c.in-Some.definition.now =
    sym (c.in-Some.ensures ∙ ap (λ (x : Argument). definition_named x.name c.args.definitions.now) c.deref.ensures ∙ ap (definition_named c.args.argument.now.value.value.name) c.requires.definitions) in
    checks-err _ _ _ _ _ c.from_residual.ensures.0
    (kept_wider (names_misuse c.args.schema.now c.args.variables.now c.args.arguments.now c.args.argument.now c.in-Some.definition.now c.requires.given found)
    c.in_err-check_variable_usage.ensures.checks)

pub returns-in_err-check_value_of_type : goal.returns-in_err-check_value_of_type
returns-in_err-check_value_of_type c =
    let schema = c.args.schema.now in
    let variables = c.args.variables.now in
    let arguments = c.args.arguments.now in
    let a = c.args.argument.now in
    let d = c.in-Some.definition.now in
    let found : definition_named a.value.value.name arguments.definitions.now ≡ Some d =
    sym (c.in-Some.ensures ∙ ap (λ (x : Argument). definition_named x.name c.args.definitions.now) c.deref.ensures ∙ ap (definition_named c.args.argument.now.value.value.name) c.requires.definitions) in
    checks-err _ _ _ _ _ c.from_residual-in_err-check_value_of_type.ensures.0
    (kept_then
    (kept_by (wider (names_misuse schema variables arguments a d c.requires.given found) c.in_ok-check_variable_usage.ensures.checks))
    (kept_wider (names_wrong_value schema variables arguments a d c.requires.given found _ c.deref-then-branch.ensures) (rw c.deref-then-branch-2.ensures at c.in_err-check_value_of_type.ensures)))

pub returns-in_ok-check_value_of_type : goal.returns-in_ok-check_value_of_type
returns-in_ok-check_value_of_type c =
    let schema = c.args.schema.now in
    let variables = c.args.variables.now in
    let arguments = c.args.arguments.now in
    let a = c.args.argument.now in
    let d = c.in-Some.definition.now in
    let found : definition_named a.value.value.name arguments.definitions.now ≡ Some d =
    sym (c.in-Some.ensures ∙ ap (λ (x : Argument). definition_named x.name c.args.definitions.now) c.deref.ensures ∙ ap (definition_named c.args.argument.now.value.value.name) c.requires.definitions) in
    in_words (given_decides schema variables arguments a d c.requires.given found _ c.deref-then-branch.ensures)
    (both
    (wider (names_misuse schema variables arguments a d c.requires.given found) c.in_ok-check_variable_usage.ensures.checks)
    (wider (names_wrong_value schema variables arguments a d c.requires.given found _ c.deref-then-branch.ensures) (rw c.deref-then-branch-2.ensures at c.in_ok-check_value_of_type.ensures)))

pub returns-else-branch : goal.returns-else-branch
returns-else-branch c =
    let schema = c.args.schema.now in
    let variables = c.args.variables.now in
    let arguments = c.args.arguments.now in
    let a = c.args.argument.now in
    let d = c.in-Some.definition.now in
    let found : definition_named a.value.value.name arguments.definitions.now ≡ Some d =
    sym (c.in-Some.ensures ∙ ap (λ (x : Argument). definition_named x.name c.args.definitions.now) c.deref.ensures ∙ ap (definition_named c.args.argument.now.value.value.name) c.requires.definitions) in
    let disallowed : ¬ UsageHolds variables d.value.value a.value.value.value.value.value = search rules in
    in_words (λ allowed. absurd (disallowed allowed), usage_needed schema variables arguments a d c.requires.given found)
    (wider (names_misuse schema variables arguments a d c.requires.given found) c.in_ok-check_variable_usage.ensures.checks)
