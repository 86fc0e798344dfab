use Rattle.graphql_verdict_laws.proofs.EveryRuleLemmas.{accepted_too}
use Rattle.graphql_verdict_laws.proofs.rules.same_schemas_are_accepted_alike.Goals as goal

pub returns : goal.returns
returns c = accepted_too
