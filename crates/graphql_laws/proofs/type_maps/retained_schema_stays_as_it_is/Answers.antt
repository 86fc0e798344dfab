use Rattle.graphql_laws.proofs.TypeMapLaws.{retained_stays}
use Rattle.graphql_laws.proofs.type_maps.retained_schema_stays_as_it_is.Goals as goal

pub returns : goal.returns
returns c = retained_stays
