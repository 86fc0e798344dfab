use Rattle.graphql_laws.proofs.ValueLaws.{lists_are_as_long}
use Rattle.graphql_laws.proofs.values.list_of_another_length_is_another_value.Goals as goal

pub returns : goal.returns
returns c = λ a b other same. other (lists_are_as_long a b same)
