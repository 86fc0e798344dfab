use Rattle.graphql_verdict_laws.proofs.OneVerdictLemmas.{holds_by_each_choice}
use Rattle.graphql_verdict_laws.proofs.verdicts.rules_hold_by_each_choice.Goals as goal

pub returns : goal.returns
returns c = holds_by_each_choice
