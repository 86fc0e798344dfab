use Rattle.std.proofs.Common.{subst}
use Rattle.graphql_diagnostics.specs.Reports.{KeepsReports}
use Rattle.graphql_input_rules.specs.InputFields.{FieldReport}
use Rattle.graphql_input_rules.specs.SchemaValues.{ArgumentsWrite}
use Rattle.graphql_input_rules.specs.ValuesWritten.{InDirectives}
use Rattle.graphql_input_rules.proofs.PlaceLemmas.{Checked, Reported, first_refused, then_checked}
use Rattle.graphql_input_rules.proofs.definitions.check_field_definition.Goals as goal

pub returns-in_err-check_directives : goal.returns-in_err-check_directives
returns-in_err-check_directives c =
    let d = c.args.field.now in
    let old = c.args.reports.now.kept.items in
    let new = c.check_directives.new.reports.kept.items in
    first_refused c.from_residual.result (InDirectives d.directives.items) (ArgumentsWrite d.arguments.items) old new c.from_residual.ensures.0
    (subst (λ l. KeepsReports (FieldReport (InDirectives l)) old new) c.deref.ensures.value c.in_err-check_directives.ensures)

pub returns : goal.returns
returns c =
    let d = c.args.field.now in
    let r = c.check_argument_definitions.result in
    let old = c.args.reports.now.kept.items in
    let mid = c.check_directives.new.reports.kept.items in
    let new = c.check_argument_definitions.new.reports.kept.items in
    then_checked r (InDirectives d.directives.items) (ArgumentsWrite d.arguments.items) old mid new
    (subst (λ l. Reported (InDirectives l) old mid) c.deref.ensures.value c.in_ok-check_directives.ensures)
    (subst (λ l. Checked r (ArgumentsWrite l) mid new) c.deref-2.ensures.value c.check_argument_definitions.ensures)
