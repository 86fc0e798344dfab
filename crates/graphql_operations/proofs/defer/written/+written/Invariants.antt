-- The walk goes on while it is below its limit, and has visited what it has passed.
use Rattle.std.proofs.Common.{◌≡◌, ◌+◌, ◌-◌, ◌*◌, map, take, true}
use Rattle.graphql_guards.specs.Guards.{depth_limit, depth_of}
use Rattle.graphql_operations.specs.DeferLabels.{MeetsDefers}
use Rattle.graphql_operations.proofs.defer.written.+written.Given as goal

abbrev pub decreases-walk_set : goal.decreases-walk_set
decreases-walk_set l = 3 * (depth_limit l.depth.now - depth_of l.depth.now) + 2

abbrev pub decreases-walk_selection : goal.decreases-walk_selection
decreases-walk_selection l = 3 * (depth_limit l.depth.now - depth_of l.depth.now) + 1

abbrev pub decreases-walk_deeper : goal.decreases-walk_deeper
decreases-walk_deeper l = 3 * (depth_limit l.depth.now - depth_of l.depth.now)

abbrev pub invariant-walk_set-loop-selection : goal.invariant-walk_set-loop-selection
invariant-walk_set-loop-selection l = record {
  depth : depth_of l.depth ≡ depth_of l.initial.depth;
  limit : depth_limit l.depth ≡ depth_limit l.initial.depth;
  meets : MeetsDefers (depth_limit l.initial.depth) (depth_of l.initial.depth) 1 (take l.selection-index l.selection-items)
      (map (λ d. d.now) l.initial.visited.items) (map (λ d. d.now) l.visited.items) true;
}
