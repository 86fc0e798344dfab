use Rattle.graphql_laws.proofs.ValueLaws.{same_arguments_then}
use Rattle.graphql_laws.proofs.values.sameness_of_arguments_goes_on.Goals as goal

pub returns : goal.returns
returns c = same_arguments_then
