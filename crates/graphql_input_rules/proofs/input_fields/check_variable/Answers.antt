use Rattle.std.proofs.Common.{subst}
use Rattle.graphql_input_rules.specs.ValuesWritten.{DefaultWrites, InDirectives}
use Rattle.graphql_input_rules.proofs.PlaceLemmas.{Checked, first_refused, then_checked}
use Rattle.graphql_input_rules.proofs.input_fields.check_variable.Goals as goal

pub returns-in_err-check_default_value : goal.returns-in_err-check_default_value
returns-in_err-check_default_value c =
    let x = c.args.variable.now in
    first_refused c.from_residual.result (DefaultWrites x.default_value) (InDirectives x.directives.items) c.args.reports.now.kept.items c.check_default_value.new.reports.kept.items
    c.from_residual.ensures.0 c.in_err-check_default_value.ensures

pub returns : goal.returns
returns c =
    let x = c.args.variable.now in
    let r = c.check_directives.result in
    let mid = c.check_default_value.new.reports.kept.items in
    let new = c.check_directives.new.reports.kept.items in
    then_checked r (DefaultWrites x.default_value) (InDirectives x.directives.items) c.args.reports.now.kept.items mid new c.in_ok-check_default_value.ensures
    (subst (λ l. Checked r (InDirectives l) mid new) c.deref.ensures.value c.check_directives.ensures)
