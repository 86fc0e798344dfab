use Rattle.graphql_laws.proofs.TypeMapLaws.{other_entry_stays}
use Rattle.graphql_laws.proofs.type_maps.type_that_is_not_built_in_stays.Goals as goal

pub returns : goal.returns
returns c = other_entry_stays
