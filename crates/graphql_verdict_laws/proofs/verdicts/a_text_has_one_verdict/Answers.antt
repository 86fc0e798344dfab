use Rattle.graphql_verdict_laws.proofs.TextVerdictLemmas.{one_kind_of_texts}
use Rattle.graphql_verdict_laws.proofs.verdicts.a_text_has_one_verdict.Goals as goal

pub returns : goal.returns
returns c = one_kind_of_texts
