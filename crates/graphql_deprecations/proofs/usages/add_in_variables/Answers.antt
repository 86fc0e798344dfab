use Rattle.std.proofs.Common.{refl, subst}
use Rattle.std.specs.Prelude.{List}
use Rattle.graphql_nodes.specs.declared.nodes.Node.{Node}
use Rattle.graphql_documents.specs.declared.documents.definitions.VariableDefinition.{VariableDefinition}
use Rattle.graphql_deprecations.specs.Deprecations.{Usage}
use Rattle.graphql_deprecations.specs.InOrder.{Adds, VariableUses}
use Rattle.graphql_deprecations.proofs.AddLemmas.{adds_none, turn_all, turn_more}
use Rattle.graphql_deprecations.proofs.usages.add_in_variables.Goals as goal

pub loop-variable-init : goal.loop-variable-init
loop-variable-init c = adds_none refl

pub loop-variable-preserved : goal.loop-variable-preserved
loop-variable-preserved c =
    let s = c.args.schema.now in
    let Of : Node VariableDefinition → List Usage → Type 0 = λ v. VariableUses s v.value.value in
    turn_more Of c.args.variables.now c.loop-variable.variable-index c.variable-item.result c.loop-variable-test.true c.variable-item.is c.loop-variable.invariant
    (subst (λ v. Adds (VariableUses s v) c.loop-variable.found.items c.add_in_variable.new.found.items) c.deref.ensures c.in_ok-add_in_variable.ensures)

pub returns : goal.returns
returns c =
    let Of : Node VariableDefinition → List Usage → Type 0 = λ v. VariableUses c.args.schema.now v.value.value in
    turn_all Of c.args.variables.now c.loop-variable.variable-index c.loop-variable-test.false c.loop-variable.invariant
