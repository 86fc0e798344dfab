use Rattle.graphql_reach.proofs.SearchLemmas.{Searches, left}
use Rattle.graphql_reach.proofs.reached.reached_fragments.Given as goal

abbrev pub invariant-loop-name : goal.invariant-loop-name
invariant-loop-name l = Searches l.document l.set l.reached

abbrev pub decreases-loop-name : goal.decreases-loop-name
decreases-loop-name l = left l.document l.reached
