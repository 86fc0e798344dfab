use Rattle.graphql_verdict_laws.proofs.EveryRuleLemmas.{every_rule_too}
use Rattle.graphql_verdict_laws.proofs.rules.same_documents_hold_alike_against_same_schemas.Goals as goal

pub returns : goal.returns
returns c = every_rule_too
