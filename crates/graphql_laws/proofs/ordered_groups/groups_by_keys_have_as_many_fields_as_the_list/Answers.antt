use Rattle.graphql_laws.proofs.OrderedGroupLaws.{lengths_of_groups}
use Rattle.graphql_laws.proofs.ordered_groups.groups_by_keys_have_as_many_fields_as_the_list.Goals as goal

pub returns : goal.returns
returns c = lengths_of_groups
