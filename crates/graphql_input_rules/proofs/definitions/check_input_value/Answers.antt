use Rattle.std.proofs.Common.{subst}
use Rattle.graphql_diagnostics.specs.Reports.{KeepsReports}
use Rattle.graphql_input_rules.specs.InputFields.{FieldReport}
use Rattle.graphql_input_rules.specs.ValuesWritten.{DefaultWrites, InDirectives}
use Rattle.graphql_input_rules.proofs.PlaceLemmas.{Reported, first_refused, then_checked}
use Rattle.graphql_input_rules.proofs.definitions.check_input_value.Goals as goal

pub returns-in_err-check_directives : goal.returns-in_err-check_directives
returns-in_err-check_directives c =
    let d = c.args.definition.now in
    let old = c.args.reports.now.kept.items in
    let new = c.check_directives.new.reports.kept.items in
    first_refused c.from_residual.result (InDirectives d.directives.items) (DefaultWrites d.default_value) old new c.from_residual.ensures.0
    (subst (λ l. KeepsReports (FieldReport (InDirectives l)) old new) c.deref.ensures.value c.in_err-check_directives.ensures)

pub returns : goal.returns
returns c =
    let d = c.args.definition.now in
    let r = c.check_default_value.result in
    let old = c.args.reports.now.kept.items in
    let mid = c.check_directives.new.reports.kept.items in
    let new = c.check_default_value.new.reports.kept.items in
    then_checked r (InDirectives d.directives.items) (DefaultWrites d.default_value) old mid new
    (subst (λ l. Reported (InDirectives l) old mid) c.deref.ensures.value c.in_ok-check_directives.ensures)
    c.check_default_value.ensures
