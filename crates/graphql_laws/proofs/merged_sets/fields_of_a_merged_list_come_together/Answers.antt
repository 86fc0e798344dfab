use Rattle.graphql_laws.proofs.MergedListLaws.{shapes_come_together}
use Rattle.graphql_laws.proofs.merged_sets.fields_of_a_merged_list_come_together.Goals as goal

pub returns : goal.returns
returns c = shapes_come_together
