use Rattle.std.proofs.Common.{take}
use Rattle.std.specs.Prelude.{flat_map}
use Rattle.graphql_diagnostics.specs.Diagnostics.{entries}
use Rattle.graphql_operations.specs.DeferLabels.{LabelsSoFar}
use Rattle.graphql_operations.proofs.DeferWalkLemmas.{defers_at, visited_at}
use Rattle.graphql_operations.proofs.defer.labels.validate_labels.Given as goal

abbrev pub invariant-loop-set : goal.invariant-loop-set
invariant-loop-set l =
    LabelsSoFar l.document (flat_map defers_at (take l.set-index l.set-items)) (flat_map visited_at (take l.set-index l.set-items)) l.labels (entries l.initial.diagnostics) (entries l.diagnostics)
