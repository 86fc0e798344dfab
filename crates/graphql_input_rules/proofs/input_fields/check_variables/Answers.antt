use Rattle.std.proofs.Common.{subst}
use Rattle.graphql_nodes.specs.declared.nodes.Node.{Node}
use Rattle.graphql_documents.specs.declared.documents.definitions.VariableDefinition.{VariableDefinition}
use Rattle.graphql_documents.specs.declared.documents.values.Value.{Value}
use Rattle.graphql_diagnostics.specs.Reports.{KeepsReports}
use Rattle.graphql_variables.proofs.FirstPlaceLemmas.{next_at, next_stands}
use Rattle.graphql_input_rules.specs.InputFields.{FieldReport}
use Rattle.graphql_input_rules.specs.ValuesWritten.{VariableWrites}
use Rattle.graphql_input_rules.proofs.PlaceLemmas.{Reported, place_refused, places_all, places_more}
use Rattle.graphql_input_rules.proofs.input_fields.check_variables.Goals as goal

abbrev In : Node VariableDefinition → Value → Type 0
In x v = VariableWrites x.value.value v

pub returns-in_err-check_variable : goal.returns-in_err-check_variable
returns-in_err-check_variable c =
    let xs = c.args.variables.now in
    let i = c.loop-variable.variable-index in
    let x = c.variable-item.result in
    let mid = c.loop-variable.reports.kept.items in
    let new = c.check_variable.new.reports.kept.items in
    place_refused In xs c.from_residual.result _ x c.args.reports.now.kept.items mid new c.from_residual.ensures.0
    (next_stands (next_at xs i x c.loop-variable-test.true c.variable-item.is)) c.loop-variable.invariant
    (subst (λ x. KeepsReports (FieldReport (VariableWrites x)) mid new) c.deref.ensures c.in_err-check_variable.ensures)

pub loop-variable-preserved : goal.loop-variable-preserved
loop-variable-preserved c =
    let mid = c.loop-variable.reports.kept.items in
    let new = c.check_variable.new.reports.kept.items in
    places_more In c.args.variables.now c.loop-variable.variable-index c.variable-item.result c.args.reports.now.kept.items mid new c.loop-variable-test.true c.variable-item.is
    c.loop-variable.invariant (subst (λ x. Reported (VariableWrites x) mid new) c.deref.ensures c.in_ok-check_variable.ensures)

pub returns : goal.returns
returns c =
    places_all In c.args.variables.now c.loop-variable.variable-index c.args.reports.now.kept.items c.loop-variable.reports.kept.items c.loop-variable-test.false c.loop-variable.invariant
