use Rattle.graphql_laws.proofs.ValueLaws.{same_arguments_itself}
use Rattle.graphql_laws.proofs.values.arguments_are_the_same_as_themselves.Goals as goal

pub returns : goal.returns
returns c = same_arguments_itself
