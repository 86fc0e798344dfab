use Rattle.graphql_sameness_laws.proofs.UsageLemmas.{variable_uses_too}
use Rattle.graphql_sameness_laws.proofs.documents.variable_uses_of_same_documents_are_defined_alike.Goals as goal

pub returns : goal.returns
returns c = variable_uses_too
