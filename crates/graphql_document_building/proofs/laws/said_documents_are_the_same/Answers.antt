use Rattle.graphql_document_building.proofs.SameDocumentLemmas.{document_is_same}
use Rattle.graphql_document_building.proofs.laws.said_documents_are_the_same.Goals as goal

pub returns : goal.returns
returns c = document_is_same
