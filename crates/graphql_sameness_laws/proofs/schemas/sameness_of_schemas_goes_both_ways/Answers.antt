use Rattle.graphql_sameness_laws.proofs.SchemaSamenessLemmas.{schema_back}
use Rattle.graphql_sameness_laws.proofs.schemas.sameness_of_schemas_goes_both_ways.Goals as goal

pub returns : goal.returns
returns c = schema_back
