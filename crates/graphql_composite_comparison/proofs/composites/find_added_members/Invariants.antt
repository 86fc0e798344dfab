use Rattle.graphql_change_kinds.specs.Found.{Adds}
use Rattle.graphql_composite_comparison.proofs.composites.find_added_members.Given as goal

abbrev pub invariant-loop-member : goal.invariant-loop-member
invariant-loop-member l = Adds l.pair.old.now l.pair.new.now l.initial.changes l.changes
