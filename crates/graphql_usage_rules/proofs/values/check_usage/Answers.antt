use Rattle.std.proofs.Common.{rules, ◌≡◌, Some}
use Rattle.graphql_documents.specs.Definitions.{variable_named}
use Rattle.graphql_diagnostics.proofs.ReportLemmas.{holds}
use Rattle.graphql_usage_rules.specs.VariableMisuses.{IsAllowedAt}
use Rattle.graphql_usage_rules.specs.Parts.{location_at}
use Rattle.graphql_usage_rules.proofs.UsageLemmas.{disallowed, is_allowed}
use Rattle.graphql_usage_rules.proofs.values.check_usage.Goals as goal

pub returns-in-Some : goal.returns-in-Some
returns-in-Some c =
    let is : variable_named c.args.name.now c.args.variables.now ≡ Some c.in-Some.variable.now = search rules in
    let not_allowed : ¬ IsAllowedAt c.in-Some.variable.now.value.value (location_at c.args.location) = search rules in
    disallowed c.args.variables.now c.args.name.now c.args.place (location_at c.args.location) c.in-Some.variable.now is not_allowed
    c.report_misuse.result c.args.reports.now.kept.items c.report_misuse.new.reports.kept.items (c.report_misuse.ensures c.args.variables.now is)

pub returns-in_default : goal.returns-in_default
returns-in_default c =
    let is : variable_named c.args.name.now c.args.variables.now ≡ Some c.in-Some.variable.now = search rules in
    let allowed : IsAllowedAt c.in-Some.variable.now.value.value (location_at c.args.location) = search rules in
    holds _ _ _ (is_allowed c.args.variables.now c.args.name.now c.args.place (location_at c.args.location) c.in-Some.variable.now is allowed)
