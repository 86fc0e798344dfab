use Rattle.std.proofs.Common.{All, take}
use Rattle.graphql_nodes.specs.declared.directive_locations.DirectiveLocation.{DirectiveLocation}
use Rattle.graphql_schema_comparison.specs.Comparisons.{KeepsLocation}
use Rattle.graphql_change_kinds.specs.Found.{Finds}
use Rattle.graphql_schema_comparison.proofs.directives.compare_locations.Given as goal

abbrev pub invariant-loop-location : goal.invariant-loop-location
invariant-loop-location l = Finds l.pair.old.now l.pair.new.now l.initial.changes l.changes (λ merging. All (λ (x : DirectiveLocation). KeepsLocation l.new x) (take l.location-index l.location-items))
