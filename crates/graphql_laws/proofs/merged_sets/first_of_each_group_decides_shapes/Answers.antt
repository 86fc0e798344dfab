use Rattle.graphql_laws.proofs.FirstOfGroupLaws.{first_shape_decides}
use Rattle.graphql_laws.proofs.merged_sets.first_of_each_group_decides_shapes.Goals as goal

pub returns : goal.returns
returns c = first_shape_decides
