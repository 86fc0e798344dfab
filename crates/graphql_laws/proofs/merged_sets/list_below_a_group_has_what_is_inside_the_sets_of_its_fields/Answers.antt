use Rattle.graphql_laws.proofs.ExpandedListLaws.{below_lists_what_is_inside}
use Rattle.graphql_laws.proofs.merged_sets.list_below_a_group_has_what_is_inside_the_sets_of_its_fields.Goals as goal

pub returns : goal.returns
returns c = below_lists_what_is_inside
