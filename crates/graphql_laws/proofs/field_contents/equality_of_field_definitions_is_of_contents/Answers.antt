use Rattle.graphql_documents.proofs.ValueContentLemmas.{equality_of_field_definitions}
use Rattle.graphql_laws.proofs.field_contents.equality_of_field_definitions_is_of_contents.Goals as goal

pub returns : goal.returns
returns c = equality_of_field_definitions
