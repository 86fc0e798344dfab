use Rattle.graphql_laws.proofs.TypeMapLaws.{unused_entry_goes}
use Rattle.graphql_laws.proofs.type_maps.built_in_scalar_that_is_not_used_goes.Goals as goal

pub returns : goal.returns
returns c = unused_entry_goes
