use Rattle.graphql_laws.proofs.SelectionLaws.{nothing_reachable_below}
use Rattle.graphql_laws.proofs.selections.what_is_below_an_unknown_field_has_no_place.Goals as goal

pub returns : goal.returns
returns c = nothing_reachable_below
