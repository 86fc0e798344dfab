use Rattle.graphql_laws.proofs.DescentLaws.{descent_has_chain}
use Rattle.graphql_laws.proofs.merged_sets.descent_has_a_chain_of_its_length.Goals as goal

pub returns : goal.returns
returns c = descent_has_chain
