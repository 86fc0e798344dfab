use Rattle.graphql_laws.proofs.FieldContentsLaws.{fields_alike}
use Rattle.graphql_laws.proofs.field_contents.fields_of_the_same_contents_are_alike.Goals as goal

pub returns : goal.returns
returns c = fields_alike
