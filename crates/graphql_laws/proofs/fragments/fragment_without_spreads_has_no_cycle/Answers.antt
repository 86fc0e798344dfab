use Rattle.graphql_laws.proofs.FragmentLaws.{no_spread_no_cycle}
use Rattle.graphql_laws.proofs.fragments.fragment_without_spreads_has_no_cycle.Goals as goal

pub returns : goal.returns
returns c = no_spread_no_cycle
