use Rattle.graphql_sameness_laws.proofs.ReachedByteLemmas.{reaches_within_too}
use Rattle.graphql_sameness_laws.proofs.documents.same_documents_reach_alike.Goals as goal

pub returns : goal.returns
returns c = reaches_within_too
