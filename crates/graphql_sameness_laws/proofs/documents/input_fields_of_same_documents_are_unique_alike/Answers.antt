use Rattle.graphql_sameness_laws.proofs.WrittenValueLemmas.{input_fields_unique_too}
use Rattle.graphql_sameness_laws.proofs.documents.input_fields_of_same_documents_are_unique_alike.Goals as goal

pub returns : goal.returns
returns c = input_fields_unique_too
