use Rattle.graphql_document_rules.proofs.KeyLaws.{one_key_alone}
use Rattle.graphql_document_rules.proofs.laws.fields_of_one_key_are_one_response_key.Goals as goal

pub returns : goal.returns
returns c = one_key_alone
