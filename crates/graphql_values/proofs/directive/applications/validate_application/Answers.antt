use Rattle.std.proofs.Common.{◌≡◌, Some, None, rules}
use Rattle.graphql_documents.specs.Directives.{directive_definition, directive_in}
use Rattle.std.specs.Option.{option_copied}
use Rattle.graphql_diagnostics.proofs.ReportLemmas.{checks_words}
use Rattle.graphql_values.proofs.DirectiveLemmas.{applied_well, not_applied_well}
use Rattle.graphql_values.proofs.directive.applications.validate_application.Goals as goal

pub returns-in-Some : goal.returns-in-Some
returns-in-Some c = λ directives among.
    let d = c.args.directive.now in
    let s = c.in-Some.schema.now in
    let defined : directive_definition s d.value.value.name ≡ Some c.in-Some.definition.now = search rules in
    rw c.in-Some.ensures.0
    (checks_words c.validate_known.result _ _ _ _ _ _ (applied_well s c.args.variables.now c.args.location d c.in-Some.definition.now defined) (λ e q. q)
    (c.validate_known.ensures directives among))

pub returns-in-None : goal.returns-in-None
returns-in-None c = λ directives among.
    let schema = option_copied c.args.schema in
    let d = c.args.directive.now in
    let undefined : directive_in schema d.value.value.name ≡ None = search rules in
    checks_words c.report_undefined.result _ _ _ _ _ _ (λ no. absurd no, not_applied_well schema c.args.variables.now c.args.location d undefined) (λ e q. q)
    (c.report_undefined.ensures schema c.args.variables.now c.args.location undefined directives among)
