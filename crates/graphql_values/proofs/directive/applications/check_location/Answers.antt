use Rattle.std.proofs.Common.{◌∙◌, Contains, ap, refl, rules}
use Rattle.std.specs.List.{each_same}
use Rattle.graphql_diagnostics.proofs.ReportLemmas.{checks-push, holds}
use Rattle.graphql_specification.specs.Directives.{of_misplaced_directive}
use Rattle.graphql_values.proofs.directive.applications.check_location.Goals as goal

pub returns-then-contains : goal.returns-then-contains
returns-then-contains c = λ schema variables defined directives among.
    let allowed : Contains c.args.definition.now.value.value.locations.items c.args.location = search rules in
    holds _ _ _ allowed

pub returns : goal.returns
returns c = λ schema variables defined directives among.
    let misplaced : ¬ Contains c.args.definition.now.value.value.locations.items c.args.location = search rules in
    checks-push _ _ _ _ _ _ c.push.ensures.ok c.push.ensures.err misplaced
    (of_misplaced_directive {name = c.in_ok-name.name} {reported = c.args.location} {valid = c.in_ok-valid_locations.valid_locations}
    {definition_location = c.args.definition.now.location} {at = c.args.directive.now.location} (record {
      against = schema;
      d = c.args.directive.now;
      definition = c.args.definition.now;
      is_applied = record { applied = among; has_schema = refl; defined = defined };
      misplaced = misplaced;
      name_is = search rules;
      reported_is = refl;
      valid_is = each_same _ _ c.in_ok-valid_locations.ensures.cases.0 ∙ ap (λ x. x.locations.items) c.deref-4.ensures;
      definition_location_is = refl;
      at_is = refl;
    }))
