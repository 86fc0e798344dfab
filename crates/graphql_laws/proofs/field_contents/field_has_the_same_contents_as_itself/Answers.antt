use Rattle.graphql_laws.proofs.FieldContentsLaws.{same_field_itself}
use Rattle.graphql_laws.proofs.field_contents.field_has_the_same_contents_as_itself.Goals as goal

pub returns : goal.returns
returns c = same_field_itself
