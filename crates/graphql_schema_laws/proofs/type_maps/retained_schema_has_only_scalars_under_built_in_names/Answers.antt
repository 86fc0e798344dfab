use Rattle.graphql_schema_laws.proofs.RetainedTypeLemmas.{only_scalars_stay}
use Rattle.graphql_schema_laws.proofs.type_maps.retained_schema_has_only_scalars_under_built_in_names.Goals as goal

pub returns : goal.returns
returns c schema retained only is = only_scalars_stay schema retained is only
