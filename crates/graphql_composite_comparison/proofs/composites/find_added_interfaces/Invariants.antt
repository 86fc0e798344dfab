use Rattle.graphql_change_kinds.specs.Found.{Adds}
use Rattle.graphql_composite_comparison.proofs.composites.find_added_interfaces.Given as goal

abbrev pub invariant-loop-listed : goal.invariant-loop-listed
invariant-loop-listed l = Adds l.pair.old.now l.pair.new.now l.initial.changes l.changes
