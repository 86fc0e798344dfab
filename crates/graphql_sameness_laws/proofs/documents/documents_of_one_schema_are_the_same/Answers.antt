use Rattle.graphql_sameness_laws.proofs.SelectionLemmas.{loose_document}
use Rattle.graphql_sameness_laws.proofs.documents.documents_of_one_schema_are_the_same.Goals as goal

pub returns : goal.returns
returns c = loose_document
