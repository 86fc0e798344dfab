use Rattle.std.proofs.Common.{subst}
use Rattle.std.specs.Prelude.{◌⊎◌}
use mathlib.Core.Logic.{inl}
use Rattle.graphql_nodes.specs.declared.nodes.Node.{Node}
use Rattle.graphql_documents.specs.declared.documents.definitions.VariableDefinition.{VariableDefinition}
use Rattle.graphql_documents.specs.declared.documents.values.Value.{Value}
use Rattle.graphql_diagnostics.specs.Reports.{KeepsReports}
use Rattle.graphql_diagnostics.proofs.ReportLemmas.{kept_wider}
use Rattle.graphql_input_rules.specs.InputFields.{FieldReport}
use Rattle.graphql_input_rules.specs.ValuesWritten.{InDirectives, SetWrites, VariableWrites}
use Rattle.graphql_input_rules.proofs.PlaceLemmas.{Among, Reported, first_refused, moved, second_refused, then_checked}
use Rattle.graphql_input_rules.proofs.input_fields.check_operation.Goals as goal

abbrev InVariable : Node VariableDefinition → Value → Type 0
InVariable x v = VariableWrites x.value.value v

pub returns-in_err-check_variables : goal.returns-in_err-check_variables
returns-in_err-check_variables c =
    let o = c.args.operation.now in
    let old = c.args.reports.now.kept.items in
    let new = c.check_variables.new.reports.kept.items in
    first_refused c.from_residual.result (Among InVariable o.variables.items) (λ v. InDirectives o.directives.items v ⊎ SetWrites o.selection_set v) old new
    c.from_residual.ensures.0 (subst (λ l. KeepsReports (FieldReport (Among InVariable l)) old new) c.deref.ensures.value c.in_err-check_variables.ensures)

pub returns-in_err-check_directives : goal.returns-in_err-check_directives
returns-in_err-check_directives c =
    let o = c.args.operation.now in
    let old = c.args.reports.now.kept.items in
    let mid = c.check_variables.new.reports.kept.items in
    let new = c.check_directives.new.reports.kept.items in
    second_refused c.from_residual-in_err-check_directives.result (Among InVariable o.variables.items)
    (λ v. InDirectives o.directives.items v ⊎ SetWrites o.selection_set v) old mid new c.from_residual-in_err-check_directives.ensures.0
    (subst (λ l. Reported (Among InVariable l) old mid) c.deref.ensures.value c.in_ok-check_variables.ensures)
    (kept_wider (moved (λ v p. inl p))
    (subst (λ l. KeepsReports (FieldReport (InDirectives l)) mid new) c.deref-2.ensures.value c.in_err-check_directives.ensures))

pub returns : goal.returns
returns c =
    let o = c.args.operation.now in
    let r = c.check_selection_set.result in
    let old = c.args.reports.now.kept.items in
    let first = c.check_variables.new.reports.kept.items in
    let second = c.check_directives.new.reports.kept.items in
    let new = c.check_selection_set.new.reports.kept.items in
    then_checked r (Among InVariable o.variables.items) (λ v. InDirectives o.directives.items v ⊎ SetWrites o.selection_set v) old first new
    (subst (λ l. Reported (Among InVariable l) old first) c.deref.ensures.value c.in_ok-check_variables.ensures)
    (then_checked r (InDirectives o.directives.items) (SetWrites o.selection_set) first second new
    (subst (λ l. Reported (InDirectives l) first second) c.deref-2.ensures.value c.in_ok-check_directives.ensures) c.check_selection_set.ensures)
