use Rattle.std.proofs.Common.{◌≡◌, None, Some, ap, rules}
use Rattle.graphql_coordinates.specs.declared.coordinates.TypeAttributeCoordinate.{TypeAttributeCoordinate}
use Rattle.graphql_deprecations.specs.declared.reports.DeprecatedElement.TheVariants as kind
use Rattle.graphql_deprecations.specs.Deprecations.{deprecation_in}
use Rattle.graphql_deprecations.proofs.AddLemmas.{adds_no_use, adds_use}
use Rattle.graphql_deprecations.proofs.elements.add_input_field.Goals as goal

pub returns-in_ok-coordinate-in-Some : goal.returns-in_ok-coordinate-in-Some
returns-in_ok-coordinate-in-Some c =
    let is : deprecation_in c.args.directives.now ≡ Some c.in-Some.deprecation.now = search rules in
    adds_use c.add_usage.result (kind.InputField (record { ty = c.args.ty.now; attribute = c.args.name.now })) (kind.InputField c.in_ok-coordinate-in-Some.coordinate) c.args.name.now c.location.result c.args.directives.now c.in-Some.deprecation.now c.args.found.now.items c.add_usage.new.found.items
    (ap (λ (x : TypeAttributeCoordinate). kind.InputField x) c.in_ok-coordinate-in-Some.ensures) c.location.ensures is c.add_usage.ensures

pub returns-in-None : goal.returns-in-None
returns-in-None c =
    let none : deprecation_in c.args.directives.now ≡ None = search rules in
    adds_no_use (kind.InputField (record { ty = c.args.ty.now; attribute = c.args.name.now })) c.args.name.now c.args.directives.now none
