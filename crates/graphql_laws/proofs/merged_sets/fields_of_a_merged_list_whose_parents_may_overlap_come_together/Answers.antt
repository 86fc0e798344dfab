use Rattle.graphql_laws.proofs.MergedListLaws.{fields_come_together}
use Rattle.graphql_laws.proofs.merged_sets.fields_of_a_merged_list_whose_parents_may_overlap_come_together.Goals as goal

pub returns : goal.returns
returns c = fields_come_together
