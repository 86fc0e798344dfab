use Rattle.graphql_laws.proofs.SelectionLaws.{below_a_field}
use Rattle.graphql_laws.proofs.selections.what_is_below_a_field_is_reachable.Goals as goal

pub returns : goal.returns
returns c = below_a_field
