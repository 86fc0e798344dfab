use Rattle.graphql_change_witnesses.proofs.LimitLemmas.{decides_not}
use Rattle.graphql_change_witnesses.proofs.confirmation.is_of_rule.Goals as goal

pub returns : goal.returns
returns c = decides_not c.is_limit.result c.is_limit.ensures
