use Rattle.graphql_laws.proofs.SelectionLaws.{only_fields_inside}
use Rattle.graphql_laws.proofs.selections.what_is_below_a_field_is_not_inside.Goals as goal

pub returns : goal.returns
returns c = only_fields_inside
