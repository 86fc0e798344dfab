use Rattle.std.proofs.Common.{refl, subst}
use Rattle.std.specs.Prelude.{List}
use Rattle.graphql_nodes.specs.declared.nodes.Node.{Node}
use Rattle.graphql_documents.specs.declared.documents.directives.Argument.{Argument}
use Rattle.graphql_deprecations.specs.Deprecations.{Usage}
use Rattle.graphql_deprecations.specs.InOrder.{Adds, ArgumentUses, argument_element}
use Rattle.graphql_deprecations.proofs.AddLemmas.{adds_none, turn_all, turn_more}
use Rattle.graphql_deprecations.proofs.arguments.add_in_arguments.Goals as goal

pub loop-argument-init : goal.loop-argument-init
loop-argument-init c = adds_none refl

pub loop-argument-preserved : goal.loop-argument-preserved
loop-argument-preserved c =
    let s = c.args.schema.now in
    let owner = argument_element c.args.owner in
    let Of : Node Argument → List Usage → Type 0 = λ a. ArgumentUses s owner c.args.definitions.now a.value.value in
    let mid = c.loop-argument.found.items in
    let new = c.add_in_argument.new.found.items in
    turn_more Of c.args.arguments.now c.loop-argument.argument-index c.argument-item.result c.loop-argument-test.true c.argument-item.is c.loop-argument.invariant
    (subst (λ l. Adds (ArgumentUses s owner l c.argument-item.result.value.value) mid new) c.in_ok-definitions_by_name.ensures
    (subst (λ a. Adds (ArgumentUses s owner c.in_ok-definitions_by_name.definitions_by_name a) mid new) c.deref.ensures c.in_ok-add_in_argument.ensures))

pub returns : goal.returns
returns c =
    let Of : Node Argument → List Usage → Type 0 = λ a. ArgumentUses c.args.schema.now (argument_element c.args.owner) c.args.definitions.now a.value.value in
    turn_all Of c.args.arguments.now c.loop-argument.argument-index c.loop-argument-test.false c.loop-argument.invariant
