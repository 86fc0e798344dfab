use Rattle.graphql_laws.proofs.ExpansionExistsLaws.{has_expansion}
use Rattle.graphql_laws.proofs.merged_sets.each_list_of_sets_has_an_expansion.Goals as goal

pub returns : goal.returns
returns c = has_expansion
