use Rattle.graphql_laws.proofs.OrderedGroupLaws.{comparisons_of_groups}
use Rattle.graphql_laws.proofs.ordered_groups.comparisons_with_the_first_of_each_group_are_those_of_the_list.Goals as goal

pub returns : goal.returns
returns c = comparisons_of_groups
