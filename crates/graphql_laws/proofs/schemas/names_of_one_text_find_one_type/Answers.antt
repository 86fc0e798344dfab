use Rattle.graphql_laws.proofs.SchemaLaws.{one_type_found}
use Rattle.graphql_laws.proofs.schemas.names_of_one_text_find_one_type.Goals as goal

pub returns : goal.returns
returns c = one_type_found
