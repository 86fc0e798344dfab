use Rattle.std.proofs.lemmas.List.Elements.{Contains-get_or}
use Rattle.std.proofs.Common.{All, subst, Contains, List, get_or}
use Rattle.graphql_nodes.specs.declared.directive_locations.DirectiveLocation.{DirectiveLocation}
use Rattle.graphql_nodes.specs.declared.directive_locations.DirectiveLocation.TheVariants as location
use Rattle.graphql_schema_comparison.specs.Comparisons.{KeepsLocation}
use Rattle.graphql_change_kinds.proofs.FindsLemmas.{found_all_of, found_more_copy, found_none, found_words}
use Rattle.graphql_schema_comparison.proofs.directives.compare_locations.Goals as goal

pub loop-location-init : goal.loop-location-init
loop-location-init c = found_none (λ merging (x : DirectiveLocation). KeepsLocation c.args.new.now x)

pub loop-location-preserved : goal.loop-location-preserved
loop-location-preserved c =
    found_more_copy (λ merging (x : DirectiveLocation). KeepsLocation c.args.new.now x) c.deref-location-items.result.now c.loop-location.location-index _
    c.loop-location-test.true c.loop-location.invariant c.in_ok-compare_location.ensures

pub returns : goal.returns
returns c =
    found_words (λ merging all. subst (All (KeepsLocation c.args.new.now)) c.deref-location-items.ensures.value all)
    (found_all_of (λ merging (x : DirectiveLocation). KeepsLocation c.args.new.now x) c.deref-location-items.result.now c.loop-location.location-index
    c.loop-location-test.false c.loop-location.invariant)

pub compare_location-requires-clause-contained : goal.compare_location-requires-clause-contained
compare_location-requires-clause-contained c =
    subst (λ (l : List DirectiveLocation). Contains l (get_or c.deref-location-items.result.now c.loop-location.location-index location.Query)) c.deref-location-items.ensures.value
    (Contains-get_or c.deref-location-items.result.now c.loop-location.location-index location.Query c.loop-location-test.true)
