use Rattle.graphql_sameness_laws.proofs.DeferLemmas.{defer_holds_too}
use Rattle.graphql_sameness_laws.proofs.documents.defer_in_same_documents_holds_alike.Goals as goal

pub returns : goal.returns
returns c = defer_holds_too
