use Rattle.std.proofs.Common.{subst}
use Rattle.graphql_nodes.specs.declared.nodes.Node.{Node}
use Rattle.graphql_documents.specs.declared.documents.definitions.InputValueDefinition.{InputValueDefinition}
use Rattle.graphql_documents.specs.declared.documents.values.Value.{Value}
use Rattle.graphql_diagnostics.specs.Reports.{KeepsReports}
use Rattle.graphql_variables.proofs.FirstPlaceLemmas.{next_at, next_stands}
use Rattle.graphql_input_rules.specs.InputFields.{FieldReport}
use Rattle.graphql_input_rules.specs.SchemaValues.{InputValueWrites}
use Rattle.graphql_input_rules.proofs.PlaceLemmas.{Reported, place_refused, places_all, places_more}
use Rattle.graphql_input_rules.proofs.definitions.check_argument_definitions.Goals as goal

abbrev In : Node InputValueDefinition → Value → Type 0
In a v = InputValueWrites a.value.value v

pub returns-in_err-check_input_value : goal.returns-in_err-check_input_value
returns-in_err-check_input_value c =
    let xs = c.args.arguments.now in
    let i = c.loop-argument.argument-index in
    let x = c.argument-item.result in
    let mid = c.loop-argument.reports.kept.items in
    let new = c.check_input_value.new.reports.kept.items in
    place_refused In xs c.from_residual.result _ x c.args.reports.now.kept.items mid new c.from_residual.ensures.0
    (next_stands (next_at xs i x c.loop-argument-test.true c.argument-item.is)) c.loop-argument.invariant
    (subst (λ x. KeepsReports (FieldReport (InputValueWrites x)) mid new) (c.deref.ensures) c.in_err-check_input_value.ensures)

pub loop-argument-preserved : goal.loop-argument-preserved
loop-argument-preserved c =
    let mid = c.loop-argument.reports.kept.items in
    let new = c.check_input_value.new.reports.kept.items in
    places_more In c.args.arguments.now c.loop-argument.argument-index c.argument-item.result c.args.reports.now.kept.items mid new c.loop-argument-test.true c.argument-item.is
    c.loop-argument.invariant (subst (λ x. Reported (InputValueWrites x) mid new) (c.deref.ensures) c.in_ok-check_input_value.ensures)

pub returns : goal.returns
returns c = places_all In c.args.arguments.now c.loop-argument.argument-index c.args.reports.now.kept.items c.loop-argument.reports.kept.items c.loop-argument-test.false c.loop-argument.invariant
