use Rattle.graphql_laws.proofs.TypeMapLaws.{missing_is_listed}
use Rattle.graphql_laws.proofs.type_maps.built_in_scalar_that_is_used_and_lacked_is_missing.Goals as goal

pub returns : goal.returns
returns c = missing_is_listed
