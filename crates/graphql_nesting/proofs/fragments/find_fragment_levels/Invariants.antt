-- The search goes on, and there is ever less work.
use Rattle.graphql_nesting.specs.Search.{Searches, work}
use Rattle.graphql_nesting.proofs.fragments.find_fragment_levels.Given as goal

abbrev pub invariant-loop-waiting : goal.invariant-loop-waiting
invariant-loop-waiting l = Searches l.fn.document l.found.fragments.items l.found.known.items l.ready.items

abbrev pub decreases-loop-waiting : goal.decreases-loop-waiting
decreases-loop-waiting l = work l.found.known.items l.ready.items
