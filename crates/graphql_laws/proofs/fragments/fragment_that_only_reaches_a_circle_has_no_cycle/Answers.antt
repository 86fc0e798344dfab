use Rattle.graphql_laws.proofs.FragmentLaws.{reaches_only_another}
use Rattle.graphql_laws.proofs.fragments.fragment_that_only_reaches_a_circle_has_no_cycle.Goals as goal

pub returns : goal.returns
returns c = reaches_only_another
