use Rattle.graphql_sameness_laws.proofs.SchemaSamenessLemmas.{schema_itself}
use Rattle.graphql_sameness_laws.proofs.schemas.schema_is_the_same_as_itself.Goals as goal

pub returns : goal.returns
returns c = schema_itself
