use Rattle.graphql_laws.proofs.FieldContentsLaws.{same_field_back}
use Rattle.graphql_laws.proofs.field_contents.sameness_of_fields_goes_both_ways.Goals as goal

pub returns : goal.returns
returns c = same_field_back
