use Rattle.graphql_document_building.proofs.BuiltLemmas.{document_is_built}
use Rattle.graphql_document_building.proofs.laws.said_document_is_built.Goals as goal

pub returns : goal.returns
returns c = document_is_built
