use Rattle.std.proofs.Common.{ap, ◌∙◌, subst}
use Rattle.graphql_nodes.specs.declared.nodes.Node.{Node}
use Rattle.graphql_documents.specs.declared.documents.directives.Directive.{Directive}
use Rattle.graphql_documents.specs.declared.documents.values.Value.{Value}
use Rattle.graphql_usage_rules.specs.Scopes.{Adds, values_at}
use Rattle.graphql_usage_rules.specs.UndefinedVariables.{VariableInArguments}
use Rattle.graphql_usage_rules.proofs.AddLemmas.{adds_all, adds_more, adds_none_yet}
use Rattle.graphql_usage_rules.proofs.scopes.add_in_directives.Goals as goal

abbrev InDirective : Node Directive → Node Value → Type 0
InDirective d variable = VariableInArguments d.value.value.arguments.items variable

pub loop-directive-init : goal.loop-directive-init
loop-directive-init c = adds_none_yet InDirective c.args.directives.now (values_at c.args.variables.now.items)

pub loop-directive-preserved : goal.loop-directive-preserved
loop-directive-preserved c =
    let mid = values_at c.loop-directive.variables.items in
    let new = values_at c.add_in_arguments.new.variables.items in
    adds_more InDirective c.args.directives.now c.loop-directive.directive-index c.directive-item.result (values_at c.args.variables.now.items) mid new
    c.loop-directive-test.true c.directive-item.is c.loop-directive.invariant
    (subst (λ l. Adds (VariableInArguments l) mid new) (c.deref-in-loop-directive.ensures.value ∙ ap (λ (d : Directive). d.arguments.items) c.deref.ensures)
    c.in_ok-add_in_arguments.ensures)

pub returns : goal.returns
returns c =
    adds_all InDirective c.args.directives.now c.loop-directive.directive-index (values_at c.args.variables.now.items) (values_at c.loop-directive.variables.items)
    c.loop-directive-test.false c.loop-directive.invariant
