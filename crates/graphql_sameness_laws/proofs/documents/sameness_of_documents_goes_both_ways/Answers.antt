use Rattle.graphql_sameness_laws.proofs.SelectionLemmas.{document_back}
use Rattle.graphql_sameness_laws.proofs.documents.sameness_of_documents_goes_both_ways.Goals as goal

pub returns : goal.returns
returns c = document_back
