use Rattle.graphql_verdict_laws.proofs.OneVerdictLemmas.{one_verdict}
use Rattle.graphql_verdict_laws.proofs.verdicts.texts_have_one_verdict.Goals as goal

pub returns : goal.returns
returns c = one_verdict
