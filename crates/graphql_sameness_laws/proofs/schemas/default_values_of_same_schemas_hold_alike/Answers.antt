use Rattle.graphql_sameness_laws.proofs.DefaultValueLemmas.{default_values_too}
use Rattle.graphql_sameness_laws.proofs.schemas.default_values_of_same_schemas_hold_alike.Goals as goal

pub returns : goal.returns
returns c = default_values_too
