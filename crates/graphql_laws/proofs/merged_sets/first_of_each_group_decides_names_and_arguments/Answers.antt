use Rattle.graphql_laws.proofs.FirstOfGroupLaws.{first_field_decides}
use Rattle.graphql_laws.proofs.merged_sets.first_of_each_group_decides_names_and_arguments.Goals as goal

pub returns : goal.returns
returns c = first_field_decides
