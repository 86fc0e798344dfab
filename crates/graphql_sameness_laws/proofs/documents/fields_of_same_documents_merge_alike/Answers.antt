use Rattle.graphql_sameness_laws.proofs.DocumentRuleLemmas.{all_fields_merge_too}
use Rattle.graphql_sameness_laws.proofs.documents.fields_of_same_documents_merge_alike.Goals as goal

pub returns : goal.returns
returns c = all_fields_merge_too
