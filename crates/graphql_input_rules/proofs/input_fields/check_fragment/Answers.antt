use Rattle.std.proofs.Common.{subst}
use Rattle.graphql_diagnostics.specs.Reports.{KeepsReports}
use Rattle.graphql_input_rules.specs.InputFields.{FieldReport}
use Rattle.graphql_input_rules.specs.ValuesWritten.{InDirectives, SetWrites}
use Rattle.graphql_input_rules.proofs.PlaceLemmas.{Reported, first_refused, then_checked}
use Rattle.graphql_input_rules.proofs.input_fields.check_fragment.Goals as goal

pub returns-in_err-check_directives : goal.returns-in_err-check_directives
returns-in_err-check_directives c =
    let f = c.args.fragment.now in
    let old = c.args.reports.now.kept.items in
    let new = c.check_directives.new.reports.kept.items in
    first_refused c.from_residual.result (InDirectives f.directives.items) (SetWrites f.selection_set) old new
    c.from_residual.ensures.0 (subst (λ l. KeepsReports (FieldReport (InDirectives l)) old new) c.deref.ensures.value c.in_err-check_directives.ensures)

pub returns : goal.returns
returns c =
    let f = c.args.fragment.now in
    let old = c.args.reports.now.kept.items in
    let mid = c.check_directives.new.reports.kept.items in
    then_checked c.check_selection_set.result (InDirectives f.directives.items) (SetWrites f.selection_set) old mid c.check_selection_set.new.reports.kept.items
    (subst (λ l. Reported (InDirectives l) old mid) c.deref.ensures.value c.in_ok-check_directives.ensures) c.check_selection_set.ensures
