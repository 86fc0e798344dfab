use Rattle.graphql_sameness_laws.proofs.RetainedLemmas.{retained_alike}
use Rattle.graphql_sameness_laws.proofs.schemas.same_schemas_retain_the_same_scalars.Goals as goal

pub returns : goal.returns
returns c = retained_alike
