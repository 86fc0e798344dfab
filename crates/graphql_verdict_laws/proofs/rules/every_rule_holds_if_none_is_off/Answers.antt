use Rattle.graphql_frontend.proofs.RuleSetLemmas.{none_is_off}
use Rattle.graphql_verdict_laws.proofs.rules.every_rule_holds_if_none_is_off.Goals as goal

pub returns : goal.returns
returns c = none_is_off
