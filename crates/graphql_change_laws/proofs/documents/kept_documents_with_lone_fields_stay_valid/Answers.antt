use Rattle.graphql_change_laws.proofs.TheoremLemmas.{lone_documents_stay_valid}
use Rattle.graphql_change_laws.proofs.documents.kept_documents_with_lone_fields_stay_valid.Goals as goal

pub returns : goal.returns
returns c = lone_documents_stay_valid
