use Rattle.graphql_laws.proofs.MergingLaws.{same_shape_itself}
use Rattle.graphql_laws.proofs.merging.output_type_has_its_own_shape.Goals as goal

pub returns : goal.returns
returns c = same_shape_itself
