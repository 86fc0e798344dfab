use Rattle.graphql_laws.proofs.ExpandedListLaws.{lists_what_is_inside}
use Rattle.graphql_laws.proofs.merged_sets.expansion_of_sets_lists_what_is_inside_one_of_them.Goals as goal

pub returns : goal.returns
returns c = lists_what_is_inside
