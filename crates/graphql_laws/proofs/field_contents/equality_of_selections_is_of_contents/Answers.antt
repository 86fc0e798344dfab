use Rattle.graphql_documents.proofs.ContentLemmas.{equality_of_selections}
use Rattle.graphql_laws.proofs.field_contents.equality_of_selections_is_of_contents.Goals as goal

pub returns : goal.returns
returns c = equality_of_selections
