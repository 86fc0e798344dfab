use Rattle.graphql_documents.proofs.ValueContentLemmas.{equality_of_values}
use Rattle.graphql_laws.proofs.field_contents.equality_of_values_is_of_contents.Goals as goal

pub returns : goal.returns
returns c = equality_of_values
