use Rattle.graphql_laws.proofs.ExpansionLaws.{listed_is_inside}
use Rattle.graphql_laws.proofs.expansion.what_an_expansion_lists_is_inside.Goals as goal

pub returns : goal.returns
returns c = listed_is_inside
