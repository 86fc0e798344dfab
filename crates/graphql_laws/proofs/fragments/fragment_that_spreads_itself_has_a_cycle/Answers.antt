use Rattle.graphql_laws.proofs.FragmentLaws.{spreads_itself}
use Rattle.graphql_laws.proofs.fragments.fragment_that_spreads_itself_has_a_cycle.Goals as goal

pub returns : goal.returns
returns c = spreads_itself
