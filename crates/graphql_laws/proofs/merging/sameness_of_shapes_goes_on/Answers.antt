use Rattle.graphql_laws.proofs.MergingLaws.{same_shape_then}
use Rattle.graphql_laws.proofs.merging.sameness_of_shapes_goes_on.Goals as goal

pub returns : goal.returns
returns c = same_shape_then
