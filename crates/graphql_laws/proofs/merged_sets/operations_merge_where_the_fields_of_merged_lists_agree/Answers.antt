use Rattle.graphql_laws.proofs.BuiltDocumentLaws.{document_merging_by_lists}
use Rattle.graphql_laws.proofs.merged_sets.operations_merge_where_the_fields_of_merged_lists_agree.Goals as goal

pub returns : goal.returns
returns c = document_merging_by_lists
