use Rattle.graphql_building_laws.proofs.SameSchemaLemmas.{schema_is_same}
use Rattle.graphql_building_laws.proofs.laws.said_schemas_are_the_same.Goals as goal

pub returns : goal.returns
returns c = schema_is_same
