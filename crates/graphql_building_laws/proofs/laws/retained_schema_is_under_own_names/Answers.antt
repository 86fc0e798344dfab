use Rattle.graphql_building_laws.proofs.OwnNameLaws.{retained_under_own_names}
use Rattle.graphql_building_laws.proofs.laws.retained_schema_is_under_own_names.Goals as goal

pub returns : goal.returns
returns c = retained_under_own_names
