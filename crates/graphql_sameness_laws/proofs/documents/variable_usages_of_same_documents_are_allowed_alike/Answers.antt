use Rattle.graphql_sameness_laws.proofs.UsageLemmas.{variable_usages_too}
use Rattle.graphql_sameness_laws.proofs.documents.variable_usages_of_same_documents_are_allowed_alike.Goals as goal

pub returns : goal.returns
returns c = variable_usages_too
