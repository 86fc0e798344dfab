use Rattle.graphql_laws.proofs.TypeMapLaws.{used_entry_stays}
use Rattle.graphql_laws.proofs.type_maps.type_that_is_used_stays.Goals as goal

pub returns : goal.returns
returns c = used_entry_stays
