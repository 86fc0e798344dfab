use Rattle.graphql_verdict_laws.proofs.DocumentVerdictLemmas.{one_document_verdict}
use Rattle.graphql_verdict_laws.proofs.verdicts.document_has_one_verdict.Goals as goal

pub returns : goal.returns
returns c = one_document_verdict
