use Rattle.graphql_verdict_laws.proofs.SchemaReadingLemmas.{one_reading}
use Rattle.graphql_verdict_laws.proofs.verdicts.texts_have_one_reading.Goals as goal

pub returns : goal.returns
returns c = one_reading
