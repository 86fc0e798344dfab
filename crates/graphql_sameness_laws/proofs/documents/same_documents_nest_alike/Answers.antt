use Rattle.graphql_sameness_laws.proofs.NestingLemmas.{nests_too}
use Rattle.graphql_sameness_laws.proofs.documents.same_documents_nest_alike.Goals as goal

pub returns : goal.returns
returns c = nests_too
