-- The walk goes down, or into a fragment that it has not visited; what it has collected is what is in the beginning of a set.
use Rattle.std.proofs.Common.{◌+◌, ◌*◌, take}
use Rattle.graphql_operations.proofs.MeasureLemmas.{room}
use Rattle.graphql_validation.specs.CollectionSteps.{CollectsMore, WalksAmong, visited_of}
use Rattle.graphql_validation.proofs.collect.FieldCollection.+collect.Given as goal

abbrev pub decreases-collect_set : goal.decreases-collect_set
decreases-collect_set l = 2 * (room (visited_of l.found.now) l.self.now.document.now.fragments.entries + goal.size-collect_set l)

abbrev pub decreases-collect_selection : goal.decreases-collect_selection
decreases-collect_selection l = 2 * (room (visited_of l.found.now) l.self.now.document.now.fragments.entries + goal.size-collect_selection l) + 1

abbrev pub decreases-collect_spread : goal.decreases-collect_spread
decreases-collect_spread l = 2 * room (visited_of l.found.now) l.self.now.document.now.fragments.entries

abbrev pub invariant-collect_set-loop-selection : goal.invariant-collect_set-loop-selection
invariant-collect_set-loop-selection l =
    CollectsMore l.initial.found l.found (WalksAmong l.self l.set.ty (take l.selection-index l.selection-items))
