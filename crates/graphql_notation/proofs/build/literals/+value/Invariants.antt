use Rattle.std.proofs.Common.{◌+◌, ◌*◌}
use Rattle.graphql_notation.proofs.build.literals.+value.Given as goal

abbrev pub decreases-nested_value : goal.decreases-nested_value
decreases-nested_value l = 2 * l.depth

abbrev pub decreases-add_fields : goal.decreases-add_fields
decreases-add_fields l = 2 * l.depth + 1

abbrev pub decreases-add_items : goal.decreases-add_items
decreases-add_items l = 2 * l.depth + 1
