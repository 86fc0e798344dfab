use Rattle.graphql_laws.proofs.BuiltDocumentLaws.{document_merging_by_groups}
use Rattle.graphql_laws.proofs.merged_sets.operations_merge_where_the_first_of_each_group_agrees_with_the_rest.Goals as goal

pub returns : goal.returns
returns c = document_merging_by_groups
