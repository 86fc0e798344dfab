use Rattle.std.proofs.Common.{◌≡◌, None, Some, rules}
use Rattle.graphql_deprecations.specs.InOrder.{argument_element}
use Rattle.graphql_deprecations.specs.Deprecations.{deprecation_in}
use Rattle.graphql_deprecations.proofs.AddLemmas.{adds_no_use, adds_use}
use Rattle.graphql_deprecations.proofs.elements.add_argument.Goals as goal

pub returns-in_ok-element-in-Some : goal.returns-in_ok-element-in-Some
returns-in_ok-element-in-Some c =
    let is : deprecation_in c.args.directives.now ≡ Some c.in-Some.deprecation.now = search rules in
    adds_use c.add_usage.result (argument_element c.args.owner c.args.name.now) c.in_ok-element-in-Some.element c.args.name.now c.location.result c.args.directives.now c.in-Some.deprecation.now c.args.found.now.items c.add_usage.new.found.items
    (c.in_ok-element-in-Some.ensures) c.location.ensures is c.add_usage.ensures

pub returns-in-None : goal.returns-in-None
returns-in-None c =
    let none : deprecation_in c.args.directives.now ≡ None = search rules in
    adds_no_use (argument_element c.args.owner c.args.name.now) c.args.name.now c.args.directives.now none
