use Rattle.graphql_document_rules.proofs.KeyLaws.{two_keys}
use Rattle.graphql_document_rules.proofs.laws.fields_of_two_keys_are_not_one_response_key.Goals as goal

pub returns : goal.returns
returns c = two_keys
