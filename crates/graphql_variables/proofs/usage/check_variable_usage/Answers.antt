use Rattle.std.proofs.Common.{rules}
use Rattle.graphql_specification.specs.VariableUsages.{IsUsageAllowed, IsVariable}
use Rattle.graphql_diagnostics.proofs.ReportLemmas.{checks-err, holds, in_words}
use Rattle.graphql_variables.proofs.UsageLemmas.{only_variable}
use Rattle.graphql_variables.proofs.usage.check_variable_usage.Goals as goal

pub returns-in_err-report_usage-in-Some-clause-checks : goal.returns-in_err-report_usage-in-Some-clause-checks
returns-in_err-report_usage-in-Some-clause-checks c =
    let is : IsVariable c.args.variables.now c.args.argument.now.value.value.value.value.value c.in-Some.variable.now =
    (c.in-Variable.name, search rules, search rules) in
    checks-err _ _ _ _ _ c.from_residual.ensures.0 (c.in_err-report_usage-in-Some.ensures c.args.variables.now is)

pub returns-in_ok-report_usage-in-Some-clause-checks : goal.returns-in_ok-report_usage-in-Some-clause-checks
returns-in_ok-report_usage-in-Some-clause-checks c =
    let is : IsVariable c.args.variables.now c.args.argument.now.value.value.value.value.value c.in-Some.variable.now =
    (c.in-Variable.name, search rules, search rules) in
    let disallowed : ¬ IsUsageAllowed c.in-Some.variable.now.value.value c.args.definition.now.value.value = search rules in
    in_words (λ no. absurd no, λ h. disallowed (h c.in-Some.variable.now is))
    (c.in_ok-report_usage-in-Some.ensures c.args.variables.now is)

pub returns-in_default-find-clause-checks : goal.returns-in_default-find-clause-checks
returns-in_default-find-clause-checks c =
    let is : IsVariable c.args.variables.now c.args.argument.now.value.value.value.value.value c.in-Some.variable.now =
    (c.in-Variable.name, search rules, search rules) in
    let allowed : IsUsageAllowed c.in-Some.variable.now.value.value c.args.definition.now.value.value = search rules in
    holds _ _ _ (only_variable c.args.variables.now c.args.argument.now.value.value.value.value.value c.in-Some.variable.now is c.args.definition.now.value.value allowed)
