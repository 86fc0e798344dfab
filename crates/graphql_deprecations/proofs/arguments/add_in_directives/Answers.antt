use Rattle.std.proofs.Common.{refl, subst}
use Rattle.graphql_nodes.specs.declared.nodes.Node.{Node}
use Rattle.graphql_documents.specs.declared.documents.directives.Directive.{Directive}
use Rattle.graphql_deprecations.specs.Deprecations.{Usage}
use Rattle.std.specs.Prelude.{List}
use Rattle.graphql_deprecations.specs.InOrder.{Adds, DirectiveUses}
use Rattle.graphql_deprecations.proofs.AddLemmas.{adds_none, turn_all, turn_more}
use Rattle.graphql_deprecations.proofs.arguments.add_in_directives.Goals as goal

pub loop-directive-init : goal.loop-directive-init
loop-directive-init c = adds_none refl

pub loop-directive-preserved : goal.loop-directive-preserved
loop-directive-preserved c =
    let s = c.args.schema.now in
    let Of : Node Directive → List Usage → Type 0 = λ d. DirectiveUses s d.value.value in
    turn_more Of c.args.directives.now c.loop-directive.directive-index c.directive-item.result c.loop-directive-test.true c.directive-item.is c.loop-directive.invariant
    (subst (λ d. Adds (DirectiveUses s d) c.loop-directive.found.items c.add_in_directive.new.found.items) c.deref.ensures c.in_ok-add_in_directive.ensures)

pub returns : goal.returns
returns c =
    let Of : Node Directive → List Usage → Type 0 = λ d. DirectiveUses c.args.schema.now d.value.value in
    turn_all Of c.args.directives.now c.loop-directive.directive-index c.loop-directive-test.false c.loop-directive.invariant
