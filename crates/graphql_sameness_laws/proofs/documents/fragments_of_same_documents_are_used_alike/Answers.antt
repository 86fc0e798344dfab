use Rattle.graphql_sameness_laws.proofs.DocumentRuleLemmas.{fragments_used_too}
use Rattle.graphql_sameness_laws.proofs.documents.fragments_of_same_documents_are_used_alike.Goals as goal

pub returns : goal.returns
returns c = fragments_used_too
