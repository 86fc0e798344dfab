use Rattle.graphql_sameness_laws.proofs.WrittenValueLemmas.{schema_input_fields_unique_too}
use Rattle.graphql_sameness_laws.proofs.schemas.input_fields_of_same_schemas_are_unique_alike.Goals as goal

pub returns : goal.returns
returns c = schema_input_fields_unique_too
