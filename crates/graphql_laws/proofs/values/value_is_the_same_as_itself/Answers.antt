use Rattle.graphql_laws.proofs.ValueLaws.{same_value_itself}
use Rattle.graphql_laws.proofs.values.value_is_the_same_as_itself.Goals as goal

pub returns : goal.returns
returns c = same_value_itself
