-- One check after another, each in words of the variables.
use Rattle.std.proofs.Common.{◌≡◌, ap, ◌∙◌}
use Rattle.std.specs.Option.{option_copied}
use Rattle.graphql_diagnostics.proofs.ReportLemmas.{checks-err, checks_after, kept_by, kept_then}
use Rattle.graphql_values.specs.VariableSteps.{visited_variable, variable_place_in}
use Rattle.graphql_variables.proofs.FirstPlaceLemmas.{holds_on_ok, next_stands, place_of_first, remembers_next}
use Rattle.graphql_values.proofs.directive.variable_definitions.validate_variable_definition.Goals as goal

pub returns-in_err-validate_variable_directives-clause-checks : goal.returns-in_err-validate_variable_directives-clause-checks
returns-in_err-validate_variable_directives-clause-checks c = λ before r variables next.
    checks-err _ _ _ _ _ c.from_residual.ensures.0 (c.in_err-validate_variable_directives.ensures variables (next_stands next))

pub returns-in_err-validate_variable_type-clause-checks : goal.returns-in_err-validate_variable_type-clause-checks
returns-in_err-validate_variable_type-clause-checks c = λ before r variables next.
    checks-err _ _ _ _ _ c.from_residual-in_err-validate_variable_type.ensures.0
    (kept_then (kept_by (c.in_ok-validate_variable_directives.ensures variables (next_stands next)))
    (c.in_err-validate_variable_type.ensures variables (next_stands next)))

pub returns-in_err-first-clause-checks : goal.returns-in_err-first-clause-checks
returns-in_err-first-clause-checks c = λ before r variables next.
    checks-err _ _ _ _ _ c.from_residual-in_err-first.ensures.0
    (kept_then (kept_by (c.in_ok-validate_variable_directives.ensures variables (next_stands next)))
    (kept_by (c.in_ok-validate_variable_type.ensures variables (next_stands next))))

pub returns-clause-checks : goal.returns-clause-checks
returns-clause-checks c = λ before r variables next.
    let name_is : c.deref.result.now.name ≡ c.args.variable.now.value.value.name = ap (λ v. v.name) c.deref.ensures in
    let first_is : c.in_ok-first.first ≡ variable_place_in before c.args.variable.now.value.value.name =
    c.in_ok-first.ensures.found _ r ∙ place_of_first visited_variable before c.deref.result.now.name ∙ ap (variable_place_in before) name_is in
    checks_after _ _ _ _ _ _ _ (c.in_ok-validate_variable_directives.ensures variables (next_stands next))
    (checks_after _ _ _ _ _ _ _ (c.in_ok-validate_variable_type.ensures variables (next_stands next))
    (c.check_name.ensures (option_copied c.args.schema) before first_is variables next))

pub returns-clause-remembers : goal.returns-clause-remembers
returns-clause-remembers c =
    let v = c.args.variable.now in
    let name_is : c.deref.result.now.name ≡ v.value.value.name = ap (λ x. x.name) c.deref.ensures in
    holds_on_ok c.check_name.result _
    (λ before r. remembers_next visited_variable before v (rw name_is at (c.in_ok-first.ensures.remembered _ r)))
