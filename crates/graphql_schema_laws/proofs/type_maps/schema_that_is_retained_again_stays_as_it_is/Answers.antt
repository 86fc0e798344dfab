use Rattle.graphql_schema_laws.proofs.RetainedLaws.{retained_again}
use Rattle.graphql_schema_laws.proofs.type_maps.schema_that_is_retained_again_stays_as_it_is.Goals as goal

pub returns : goal.returns
returns c schema retained again scalars is = retained_again schema retained scalars is again
