use Rattle.std.proofs.Common.{◌+◌, ◌*◌}
use Rattle.graphql_syntax.proofs.types.+types.Given as goal

abbrev pub decreases-type_reference : goal.decreases-type_reference
decreases-type_reference l = 2 * l.depth

abbrev pub decreases-list : goal.decreases-list
decreases-list l = 2 * l.depth + 1
