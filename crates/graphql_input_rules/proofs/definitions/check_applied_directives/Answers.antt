use Rattle.std.proofs.Common.{ap, ◌∙◌, subst}
use Rattle.graphql_documents.specs.declared.documents.components.Component.{Component}
use Rattle.graphql_documents.specs.declared.documents.directives.Directive.{Directive}
use Rattle.graphql_documents.specs.declared.documents.values.Value.{Value}
use Rattle.graphql_diagnostics.specs.Reports.{KeepsReports}
use Rattle.graphql_variables.proofs.FirstPlaceLemmas.{next_at, next_stands}
use Rattle.graphql_input_rules.specs.InputFields.{FieldReport}
use Rattle.graphql_input_rules.specs.ValuesWritten.{InArguments}
use Rattle.graphql_input_rules.proofs.PlaceLemmas.{Reported, place_refused, places_all, places_more}
use Rattle.graphql_input_rules.proofs.definitions.check_applied_directives.Goals as goal

abbrev In : Component Directive → Value → Type 0
In d v = InArguments d.node.value.value.arguments.items v

pub returns-in_err-check_arguments : goal.returns-in_err-check_arguments
returns-in_err-check_arguments c =
    let xs = c.args.directives.now in
    let i = c.loop-directive.directive-index in
    let x = c.directive-item.result in
    let mid = c.loop-directive.reports.kept.items in
    let new = c.check_arguments.new.reports.kept.items in
    place_refused In xs c.from_residual.result _ x c.args.reports.now.kept.items mid new c.from_residual.ensures.0
    (next_stands (next_at xs i x c.loop-directive-test.true c.directive-item.is)) c.loop-directive.invariant
    (subst (λ x. KeepsReports (FieldReport (InArguments x)) mid new) (c.deref-in-loop-directive.ensures.value ∙ ap (λ (d : Directive). d.arguments.items) c.deref.ensures) c.in_err-check_arguments.ensures)

pub loop-directive-preserved : goal.loop-directive-preserved
loop-directive-preserved c =
    let mid = c.loop-directive.reports.kept.items in
    let new = c.check_arguments.new.reports.kept.items in
    places_more In c.args.directives.now c.loop-directive.directive-index c.directive-item.result c.args.reports.now.kept.items mid new c.loop-directive-test.true c.directive-item.is
    c.loop-directive.invariant (subst (λ x. Reported (InArguments x) mid new) (c.deref-in-loop-directive.ensures.value ∙ ap (λ (d : Directive). d.arguments.items) c.deref.ensures) c.in_ok-check_arguments.ensures)

pub returns : goal.returns
returns c = places_all In c.args.directives.now c.loop-directive.directive-index c.args.reports.now.kept.items c.loop-directive.reports.kept.items c.loop-directive-test.false c.loop-directive.invariant
