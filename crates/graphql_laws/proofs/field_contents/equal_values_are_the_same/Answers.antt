use Rattle.graphql_laws.proofs.ValueContentsLaws.{equal_values_are_same}
use Rattle.graphql_laws.proofs.field_contents.equal_values_are_the_same.Goals as goal

pub returns : goal.returns
returns c = equal_values_are_same
