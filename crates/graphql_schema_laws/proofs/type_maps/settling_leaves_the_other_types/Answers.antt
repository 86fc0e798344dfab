use Rattle.graphql_schema_laws.proofs.RetainedTypeLemmas.{other_type}
use Rattle.graphql_schema_laws.proofs.type_maps.settling_leaves_the_other_types.Goals as goal

pub returns : goal.returns
returns c schema retained name is = other_type schema retained is name
