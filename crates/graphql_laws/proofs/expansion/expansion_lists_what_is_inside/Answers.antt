use Rattle.graphql_laws.proofs.ExpansionLaws.{inside_is_listed}
use Rattle.graphql_laws.proofs.expansion.expansion_lists_what_is_inside.Goals as goal

pub returns : goal.returns
returns c = inside_is_listed
