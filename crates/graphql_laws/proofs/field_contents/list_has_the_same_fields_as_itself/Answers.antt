use Rattle.graphql_laws.proofs.FieldContentsLaws.{same_fields_itself}
use Rattle.graphql_laws.proofs.field_contents.list_has_the_same_fields_as_itself.Goals as goal

pub returns : goal.returns
returns c = same_fields_itself
