use Rattle.graphql_verdict_laws.proofs.KindLemmas.{one_kind}
use Rattle.graphql_verdict_laws.proofs.verdicts.texts_have_verdicts_of_one_kind.Goals as goal

pub returns : goal.returns
returns c = one_kind
