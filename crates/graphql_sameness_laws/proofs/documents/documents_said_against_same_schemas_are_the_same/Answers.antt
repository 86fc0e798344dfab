use Rattle.graphql_sameness_laws.proofs.SaidDocumentLemmas.{said_against_same_schemas}
use Rattle.graphql_sameness_laws.proofs.documents.documents_said_against_same_schemas_are_the_same.Goals as goal

pub returns : goal.returns
returns c = said_against_same_schemas
