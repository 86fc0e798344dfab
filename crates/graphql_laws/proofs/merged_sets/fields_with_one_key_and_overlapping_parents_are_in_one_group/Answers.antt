use Rattle.graphql_laws.proofs.GroupLaws.{field_groups}
use Rattle.graphql_laws.proofs.merged_sets.fields_with_one_key_and_overlapping_parents_are_in_one_group.Goals as goal

pub returns : goal.returns
returns c = field_groups
