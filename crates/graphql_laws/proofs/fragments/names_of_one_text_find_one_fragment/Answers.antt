use Rattle.graphql_documents.proofs.SelectionLemmas.{one_fragment_found}
use Rattle.graphql_laws.proofs.fragments.names_of_one_text_find_one_fragment.Goals as goal

pub returns : goal.returns
returns c = one_fragment_found
