use Rattle.graphql_nodes.specs.declared.directive_locations.DirectiveLocation.{DirectiveLocation}
use Rattle.graphql_change_kinds.proofs.TruthLemmas.{location_found}
use Rattle.graphql_change_kinds.proofs.FindsLemmas.{adds_found}
use Rattle.std.proofs.Common.{List, sym, subst, Contains}
use Rattle.graphql_change_kinds.specs.Changes.{IsChange, location_added}
use Rattle.graphql_change_kinds.specs.declared.changes.Change.TheVariants as change
use Rattle.graphql_coordinates.specs.declared.coordinates.DirectiveCoordinate.{DirectiveCoordinate}
use Rattle.graphql_schema_comparison.proofs.directives.find_added_location.Goals as goal

pub push-requires : goal.push-requires
push-requires c =
    let old = c.args.pair.old.now in
    let new = c.args.pair.new.now in
    let before : ¬ Contains c.args.old.now.locations.items c.args.location.now = λ at.
    let there = location_found c.deref.result.now c.args.location.now (subst (λ (l : List DirectiveLocation). Contains l c.args.location.now) (sym c.deref.ensures.value) at) in
    let answer = c.contains.ensures.value in
    let no : ⊥ = cc in no in
    subst (λ (k : DirectiveCoordinate). IsChange old new (change.LocationAdded k c.args.location.now)) (sym c.in_ok-directive.ensures)
    (location_added c.args.old.now c.args.new.now c.requires.was c.requires.is before c.requires.contained)

pub returns : goal.returns
returns c = adds_found c.in_ok-push.ensures
