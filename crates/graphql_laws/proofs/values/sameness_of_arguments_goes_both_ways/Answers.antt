use Rattle.graphql_laws.proofs.ValueLaws.{same_arguments_back}
use Rattle.graphql_laws.proofs.values.sameness_of_arguments_goes_both_ways.Goals as goal

pub returns : goal.returns
returns c = same_arguments_back
