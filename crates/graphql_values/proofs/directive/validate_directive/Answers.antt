-- One check after another, each in words of the directives applied at the place.
use Rattle.std.proofs.Common.{◌≡◌, ap, ◌∙◌}
use Rattle.std.specs.Option.{option_copied}
use Rattle.graphql_diagnostics.specs.Diagnostics.{IsDiagnostic}
use Rattle.graphql_specification.specs.Directives.{DirectivesReport}
use Rattle.graphql_nodes.specs.Spans.{recompose}
use Rattle.graphql_diagnostics.proofs.ReportLemmas.{checks-err, checks_after, kept_by, kept_then, kept_wider, wider}
use Rattle.graphql_values.specs.DirectiveSteps.{head_in, head_place, visited_directive}
use Rattle.graphql_values.proofs.DirectiveLemmas.{names_repetition}
use Rattle.graphql_variables.proofs.FirstPlaceLemmas.{holds_on_ok, next_stands, place_of_first, remembers_next}
use Rattle.graphql_values.proofs.directive.validate_directive.Goals as goal

-- the arguments of the directive were checked for repetitions
pub returns-in_err-validate_arguments-clause-checks : goal.returns-in_err-validate_arguments-clause-checks
returns-in_err-validate_arguments-clause-checks c = λ before r directives next.
    let d = c.args.directive.now in
    let schema = option_copied c.args.schema in
    let arguments_are : c.deref-3.result.now ≡ d.value.value.arguments.items = c.deref-3.ensures.value ∙ ap (λ x. x.arguments.items) c.deref-2.ensures in
    checks-err _ _ _ _ _ c.from_residual.ensures.0
    (kept_wider
    (names_repetition schema c.args.variables.now c.args.location directives d (next_stands next))
    (rw arguments_are at c.in_err-validate_arguments.ensures.checks))

pub returns-in_err-first-clause-checks : goal.returns-in_err-first-clause-checks
returns-in_err-first-clause-checks c = λ before r directives next.
    let d = c.args.directive.now in
    let schema = option_copied c.args.schema in
    let arguments_are : c.deref-3.result.now ≡ d.value.value.arguments.items = c.deref-3.ensures.value ∙ ap (λ x. x.arguments.items) c.deref-2.ensures in
    checks-err _ _ _ _ _ c.from_residual-in_err-first.ensures.0
    (kept_wider
    (names_repetition schema c.args.variables.now c.args.location directives d (next_stands next))
    (kept_by (rw arguments_are at c.in_ok-validate_arguments.ensures.checks)))

pub returns-in_err-check_repetition-clause-checks : goal.returns-in_err-check_repetition-clause-checks
returns-in_err-check_repetition-clause-checks c = λ before r directives next.
    let d = c.args.directive.now in
    let schema = option_copied c.args.schema in
    let arguments_are : c.deref-3.result.now ≡ d.value.value.arguments.items = c.deref-3.ensures.value ∙ ap (λ x. x.arguments.items) c.deref-2.ensures in
    let first_is : c.in_ok-first.first ≡ head_in before d.value.value.name =
    c.in_ok-first.ensures.found _ r ∙ place_of_first visited_directive before c.deref.result.now.name ∙ ap (λ x. head_in before x.name) c.deref.ensures in
    checks-err _ _ _ _ _ c.from_residual-in_err-check_repetition.ensures.0
    (kept_then
    (kept_wider
    (names_repetition schema c.args.variables.now c.args.location directives d (next_stands next))
    (kept_by (rw arguments_are at c.in_ok-validate_arguments.ensures.checks)))
    (c.in_err-check_repetition.ensures before first_is c.args.variables.now c.args.location directives next))

pub returns-clause-checks : goal.returns-clause-checks
returns-clause-checks c = λ before r directives next.
    let d = c.args.directive.now in
    let schema = option_copied c.args.schema in
    let Q = IsDiagnostic (DirectivesReport schema c.args.variables.now c.args.location directives) in
    let arguments_are : c.deref-3.result.now ≡ d.value.value.arguments.items = c.deref-3.ensures.value ∙ ap (λ x. x.arguments.items) c.deref-2.ensures in
    let first_is : c.in_ok-first.first ≡ head_in before d.value.value.name =
    c.in_ok-first.ensures.found _ r ∙ place_of_first visited_directive before c.deref.result.now.name ∙ ap (λ x. head_in before x.name) c.deref.ensures in
    checks_after _ _ _ Q _ _ _
    (wider
    (names_repetition schema c.args.variables.now c.args.location directives d (next_stands next))
    (rw arguments_are at c.in_ok-validate_arguments.ensures.checks))
    (checks_after _ _ _ Q _ _ _ (c.in_ok-check_repetition.ensures before first_is c.args.variables.now c.args.location directives next)
    (c.validate_application.ensures directives (next_stands next)))

pub returns-clause-remembers : goal.returns-clause-remembers
returns-clause-remembers c =
    let d = c.args.directive.now in
    let name_is : c.deref.result.now.name ≡ d.value.value.name = ap (λ x. x.name) c.deref.ensures in
    let head_is : c.recompose-head.result ≡ head_place d =
    c.recompose-head.ensures ∙ ap (recompose d.location) (c.location.ensures ∙ ap (λ x. x.name.location) c.deref.ensures) in
    holds_on_ok c.validate_application.result _
    (λ before r. remembers_next visited_directive before d (rw (name_is, head_is) at (c.in_ok-first.ensures.remembered _ r)))
