use Rattle.graphql_change_kinds.proofs.FindsLemmas.{adds_none, adds_then}
use Rattle.graphql_schema_comparison.proofs.directives.find_added_locations.Goals as goal

pub loop-location-init : goal.loop-location-init
loop-location-init c = adds_none

pub loop-location-preserved : goal.loop-location-preserved
loop-location-preserved c = adds_then c.loop-location.invariant c.in_ok-find_added_location.ensures

pub returns : goal.returns
returns c = c.loop-location.invariant
