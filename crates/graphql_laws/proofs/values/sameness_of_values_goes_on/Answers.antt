use Rattle.graphql_laws.proofs.ValueLaws.{same_value_then}
use Rattle.graphql_laws.proofs.values.sameness_of_values_goes_on.Goals as goal

pub returns : goal.returns
returns c = same_value_then
