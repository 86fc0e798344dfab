use Rattle.graphql_verdict_laws.proofs.EveryRuleLemmas.{one_schema_too}
use Rattle.graphql_verdict_laws.proofs.rules.same_documents_hold_alike.Goals as goal

pub returns : goal.returns
returns c = one_schema_too
