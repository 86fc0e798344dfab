use Rattle.graphql_change_kinds.specs.Found.{Adds}
use Rattle.graphql_schema_comparison.proofs.directives.find_added_locations.Given as goal

abbrev pub invariant-loop-location : goal.invariant-loop-location
invariant-loop-location l = Adds l.pair.old.now l.pair.new.now l.initial.changes l.changes
