use Rattle.graphql_building_laws.proofs.OwnNameLaws.{said_under_own_names}
use Rattle.graphql_building_laws.proofs.laws.said_schema_is_under_own_names.Goals as goal

pub returns : goal.returns
returns c = said_under_own_names
