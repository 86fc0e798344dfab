use Rattle.graphql_nodes.specs.declared.directive_locations.DirectiveLocation.{DirectiveLocation}
use Rattle.graphql_change_kinds.proofs.TruthLemmas.{location_found}
use Rattle.graphql_change_kinds.proofs.FindsLemmas.{found_words}
use Rattle.std.proofs.Common.{List, sym, subst, Contains}
use Rattle.graphql_change_kinds.specs.Changes.{IsChange, location_removed}
use Rattle.graphql_change_kinds.specs.declared.changes.Change.TheVariants as change
use Rattle.graphql_coordinates.specs.declared.coordinates.DirectiveCoordinate.{DirectiveCoordinate}
use Rattle.graphql_schema_comparison.proofs.directives.compare_location.Goals as goal

pub push-requires : goal.push-requires
push-requires c =
    let old = c.args.pair.old.now in
    let new = c.args.pair.new.now in
    let gone : ¬ Contains c.args.new.now.locations.items c.args.location.now = λ at.
    let there = location_found c.deref.result.now c.args.location.now (subst (λ (l : List DirectiveLocation). Contains l c.args.location.now) (sym c.deref.ensures.value) at) in
    let answer = c.contains.ensures.value in
    let no : ⊥ = cc in no in
    subst (λ (k : DirectiveCoordinate). IsChange old new (change.LocationRemoved k c.args.location.now)) (sym c.in_ok-directive.ensures)
    (location_removed c.args.old.now c.args.new.now c.requires.was c.requires.is c.requires.contained gone)

pub returns : goal.returns
returns c = found_words (λ merging other is. absurd (let no : ⊥ = cc in no)) c.in_ok-push.ensures
