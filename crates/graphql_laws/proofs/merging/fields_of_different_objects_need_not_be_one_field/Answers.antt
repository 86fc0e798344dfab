use Rattle.graphql_laws.proofs.MergingLaws.{different_objects_are_apart}
use Rattle.graphql_laws.proofs.merging.fields_of_different_objects_need_not_be_one_field.Goals as goal

pub returns : goal.returns
returns c = different_objects_are_apart
