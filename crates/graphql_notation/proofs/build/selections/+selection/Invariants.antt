use Rattle.std.proofs.Common.{◌+◌, ◌*◌}
use Rattle.graphql_notation.proofs.build.selections.+selection.Given as goal

abbrev pub decreases-fill : goal.decreases-fill
decreases-fill l = 2 * l.depth

abbrev pub decreases-selection : goal.decreases-selection
decreases-selection l = 2 * l.depth + 1
