use Rattle.std.proofs.Common.{subst}
use Rattle.graphql_nodes.specs.declared.nodes.Node.{Node}
use Rattle.graphql_documents.specs.declared.documents.directives.Argument.{Argument}
use Rattle.graphql_documents.specs.declared.documents.values.Value.{Value}
use Rattle.graphql_usage_rules.specs.Scopes.{Adds, values_at}
use Rattle.graphql_usage_rules.specs.UndefinedVariables.{VariableIn}
use Rattle.graphql_usage_rules.proofs.AddLemmas.{adds_all, adds_more, adds_none_yet}
use Rattle.graphql_usage_rules.proofs.scopes.add_in_arguments.Goals as goal

abbrev InArgument : Node Argument → Node Value → Type 0
InArgument a variable = VariableIn variable a.value.value.value

pub loop-argument-init : goal.loop-argument-init
loop-argument-init c = adds_none_yet InArgument c.args.arguments.now (values_at c.args.variables.now.items)

pub loop-argument-preserved : goal.loop-argument-preserved
loop-argument-preserved c =
    let mid = values_at c.loop-argument.variables.items in
    let new = values_at c.add_in_value.new.variables.items in
    adds_more InArgument c.args.arguments.now c.loop-argument.argument-index c.argument-item.result (values_at c.args.variables.now.items) mid new
    c.loop-argument-test.true c.argument-item.is c.loop-argument.invariant
    (subst (λ (a : Argument). Adds (λ variable. VariableIn variable a.value) mid new) c.deref.ensures c.in_ok-add_in_value.ensures)

pub returns : goal.returns
returns c =
    adds_all InArgument c.args.arguments.now c.loop-argument.argument-index (values_at c.args.variables.now.items) (values_at c.loop-argument.variables.items)
    c.loop-argument-test.false c.loop-argument.invariant
