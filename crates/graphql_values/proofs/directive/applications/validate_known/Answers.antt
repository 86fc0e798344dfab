use Rattle.std.proofs.Common.{All, Contains, Some}
use Rattle.graphql_specification.specs.Arguments.{RequiredArgumentIsProvided}
use Rattle.graphql_diagnostics.specs.Diagnostics.{IsDiagnostic}
use Rattle.graphql_specification.specs.Directives.{DirectivesReport}
use Rattle.graphql_diagnostics.proofs.ReportLemmas.{checks-err, checks_after, checks_words, kept_by, kept_then, kept_wider}
use Rattle.graphql_values.specs.GivenArguments.{GivenArgumentHolds}
use Rattle.graphql_values.proofs.DirectiveLemmas.{arguments_checked, names_given}
use Rattle.graphql_values.proofs.directive.applications.validate_known.Goals as goal

pub returns-in_err-check_location : goal.returns-in_err-check_location
returns-in_err-check_location c = λ directives among.
    checks-err _ _ _ _ _ c.from_residual.ensures.0 (c.in_err-check_location.ensures c.args.schema.now c.args.variables.now c.requires directives among)

pub returns-in_err-validate_given_arguments : goal.returns-in_err-validate_given_arguments
returns-in_err-validate_given_arguments c = λ directives among.
    let arguments = c.of_directive-arguments.result in
    let Q = IsDiagnostic (DirectivesReport (Some c.args.schema.now) c.args.variables.now c.args.location directives) in
    checks-err _ _ _ _ _ c.from_residual-in_err-validate_given_arguments.ensures.0
    (kept_then (kept_by (c.in_ok-check_location.ensures c.args.schema.now c.args.variables.now c.requires directives among))
    (kept_wider
    (names_given c.args.schema.now c.args.variables.now c.args.location c.args.directive.now c.args.definition.now c.requires directives among
    arguments c.of_directive-arguments.ensures)
    c.in_err-validate_given_arguments.ensures))

pub returns : goal.returns
returns c = λ directives among.
    let arguments = c.of_directive-arguments.result in
    let given = c.args.directive.now.value.value.arguments.items in
    let definitions = c.args.definition.now.value.value.arguments.items in
    let Q = IsDiagnostic (DirectivesReport (Some c.args.schema.now) c.args.variables.now c.args.location directives) in
    let L = Contains c.args.definition.now.value.value.locations.items c.args.location in
    let G = All (GivenArgumentHolds c.args.schema.now c.args.variables.now definitions) given in
    let R = All (RequiredArgumentIsProvided given) definitions in
    checks_words _ (L × (G × R)) (L × G × R) Q Q _ _ (λ p. (p.0, p.1.0, p.1.1), λ p. (p.0, (p.1, p.2))) (λ e q. q)
    (checks_after _ L (G × R) Q _ _ _ (c.in_ok-check_location.ensures c.args.schema.now c.args.variables.now c.requires directives among)
    (arguments_checked c.args.schema.now c.args.variables.now c.args.location c.args.directive.now c.args.definition.now c.requires directives among
    arguments c.of_directive-arguments.ensures _ _ _ _
    c.in_ok-validate_given_arguments.ensures c.validate_required_arguments.ensures))
