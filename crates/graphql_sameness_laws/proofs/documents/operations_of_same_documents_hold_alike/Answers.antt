use Rattle.graphql_sameness_laws.proofs.DocumentRuleLemmas.{operations_hold_too}
use Rattle.graphql_sameness_laws.proofs.documents.operations_of_same_documents_hold_alike.Goals as goal

pub returns : goal.returns
returns c = operations_hold_too
