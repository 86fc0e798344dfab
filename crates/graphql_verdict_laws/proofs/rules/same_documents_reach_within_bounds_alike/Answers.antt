use Rattle.graphql_verdict_laws.proofs.EveryRuleLemmas.{reaches_within_bounds_too}
use Rattle.graphql_verdict_laws.proofs.rules.same_documents_reach_within_bounds_alike.Goals as goal

pub returns : goal.returns
returns c = reaches_within_bounds_too
