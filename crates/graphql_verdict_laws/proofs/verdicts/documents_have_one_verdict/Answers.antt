use Rattle.graphql_verdict_laws.proofs.DocumentVerdictLemmas.{one_documents_verdict}
use Rattle.graphql_verdict_laws.proofs.verdicts.documents_have_one_verdict.Goals as goal

pub returns : goal.returns
returns c = one_documents_verdict
