use Rattle.std.proofs.Common.{subst}
use Rattle.graphql_nodes.specs.declared.nodes.Node.{Node}
use Rattle.graphql_documents.specs.declared.documents.directives.Directive.{Directive}
use Rattle.graphql_usage_rules.specs.Parts.{UsedInDirective}
use Rattle.graphql_usage_rules.specs.Usages.{Usage}
use Rattle.graphql_usage_rules.proofs.PlaceLemmas.{Kept, Reported, place_refused, places_all, places_more}
use Rattle.graphql_usage_rules.proofs.values.check_directives.Goals as goal

pub returns-in_err-check_directive : goal.returns-in_err-check_directive
returns-in_err-check_directive c =
    let v = c.args.variables.now in
    let In : Node Directive → Usage → Type 0 = λ d. UsedInDirective c.args.schema.now d.value.value in
    let mid = c.loop-directive.reports.kept.items in
    let new = c.check_directive.new.reports.kept.items in
    place_refused v In c.args.directives.now c.from_residual.result c.loop-directive.directive-index c.directive-item.result c.args.reports.now.kept.items mid new
    c.from_residual.ensures.0 c.loop-directive-test.true c.directive-item.is c.loop-directive.invariant
    (subst (λ d. Kept v (UsedInDirective c.args.schema.now d) mid new) c.deref.ensures c.in_err-check_directive.ensures)

pub loop-directive-preserved : goal.loop-directive-preserved
loop-directive-preserved c =
    let v = c.args.variables.now in
    let In : Node Directive → Usage → Type 0 = λ d. UsedInDirective c.args.schema.now d.value.value in
    let mid = c.loop-directive.reports.kept.items in
    let new = c.check_directive.new.reports.kept.items in
    places_more v In c.args.directives.now c.loop-directive.directive-index c.directive-item.result c.args.reports.now.kept.items mid new
    c.loop-directive-test.true c.directive-item.is c.loop-directive.invariant
    (subst (λ d. Reported v (UsedInDirective c.args.schema.now d) mid new) c.deref.ensures c.in_ok-check_directive.ensures)

pub returns : goal.returns
returns c =
    let In : Node Directive → Usage → Type 0 = λ d. UsedInDirective c.args.schema.now d.value.value in
    places_all c.args.variables.now In c.args.directives.now c.loop-directive.directive-index c.args.reports.now.kept.items c.loop-directive.reports.kept.items
    c.loop-directive-test.false c.loop-directive.invariant
