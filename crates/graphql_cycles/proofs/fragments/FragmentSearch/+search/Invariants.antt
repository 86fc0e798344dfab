-- The search goes from set to set, each less deep than the one before or visited with a longer path;
-- and it has searched what it has passed.
use Rattle.std.proofs.Common.{◌≡◌, ◌+◌, ◌*◌, take}
use Rattle.graphql_guards.specs.Guards.{path_limit, path_of}
use Rattle.graphql_cycles.specs.FragmentSearches.{SpreadAmong}
use Rattle.graphql_cycles.proofs.FragmentRoomLemmas.{room}
use Rattle.graphql_cycles.proofs.FragmentSearchLemmas.{ClosesOver}
use Rattle.graphql_cycles.proofs.fragments.FragmentSearch.+search.Given as goal

abbrev pub decreases-search_set : goal.decreases-search_set
decreases-search_set l = 2 * (room l.self.now.document.now l.path.now + goal.size-search_set l) + 1

abbrev pub decreases-search_selection : goal.decreases-search_selection
decreases-search_selection l = 2 * (room l.self.now.document.now l.path.now + goal.size-search_selection l) + 1

abbrev pub decreases-search_spread : goal.decreases-search_spread
decreases-search_spread l = 2 * room l.self.now.document.now l.path.now

abbrev pub invariant-search_set-loop-selection : goal.invariant-search_set-loop-selection
invariant-search_set-loop-selection l = record {
  path : path_of l.path ≡ path_of l.initial.path;
  limit : path_limit l.path ≡ path_limit l.initial.path;
  closes : ClosesOver l.self.document.now l.self.root.now (SpreadAmong (take l.selection-index l.selection-items)) l.initial.seen.keys l.seen.keys;
}
