use Rattle.graphql_kept_rules.proofs.AcceptedSchemaLemmas.{input_types}
use Rattle.graphql_kept_rules.proofs.schemas.inputs_of_a_schema_that_holds_are_of_input_types.Goals as goal

pub returns : goal.returns
returns c = input_types
