-- The walk goes on while it is below its limit, has searched what it has passed, and has listed its
-- fields in order.
use Rattle.std.proofs.Common.{◌≡◌, ◌+◌, ◌-◌, ◌*◌, [], take}
use Rattle.graphql_guards.specs.Guards.{depth_limit, depth_of}
use Rattle.graphql_documents.specs.Selections.{fragments_of}
use Rattle.graphql_variables.specs.Searches.{Searched}
use Rattle.graphql_variables.specs.WalkSteps.{GoesThrough, IsVisited, ListsInOrder, StepOf}
use Rattle.graphql_variables.specs.declared.walks.Extent.TheVariants as extent
use Rattle.graphql_variables.proofs.walks.SelectionWalk.+walk.Given as goal

abbrev pub decreases-walk_set : goal.decreases-walk_set
decreases-walk_set l = 4 * (depth_limit l.depth.now - depth_of l.depth.now) + 3

abbrev pub decreases-walk_below : goal.decreases-walk_below
decreases-walk_below l = 4 * (depth_limit l.depth.now - depth_of l.depth.now) + 2

abbrev pub decreases-walk_fragment : goal.decreases-walk_fragment
decreases-walk_fragment l = 4 * (depth_limit l.depth.now - depth_of l.depth.now) + 1

abbrev pub decreases-walk_deeper : goal.decreases-walk_deeper
decreases-walk_deeper l = 4 * (depth_limit l.depth.now - depth_of l.depth.now)

abbrev pub invariant-walk_set-loop-selection : goal.invariant-walk_set-loop-selection
invariant-walk_set-loop-selection l = record {
  depth : depth_of l.depth ≡ depth_of l.initial.depth;
  limit : depth_limit l.depth ≡ depth_limit l.initial.depth;
  searched : Searched (StepOf l.self) (GoesThrough l.self (take l.selection-index l.selection-items))
      (IsVisited l.initial.visited) (IsVisited l.visited);
  ordered : l.self.extent ≡ extent.InExpandedSet →
      ListsInOrder (fragments_of l.self.document.now) (take l.selection-index l.selection-items) [] l.initial.visited l.visited;
}
