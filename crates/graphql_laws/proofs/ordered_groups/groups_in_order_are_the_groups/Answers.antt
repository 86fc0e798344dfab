use Rattle.graphql_laws.proofs.OrderedGroupLaws.{groups_listed}
use Rattle.graphql_laws.proofs.ordered_groups.groups_in_order_are_the_groups.Goals as goal

pub returns : goal.returns
returns c schema pass fields = groups_listed schema fields pass
