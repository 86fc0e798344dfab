use Rattle.graphql_change_laws.proofs.TheoremLemmas.{documents_stay_valid}
use Rattle.graphql_change_laws.proofs.documents.kept_documents_stay_valid.Goals as goal

pub returns : goal.returns
returns c = documents_stay_valid
