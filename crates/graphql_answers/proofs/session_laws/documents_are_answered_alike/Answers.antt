use Rattle.graphql_answers.proofs.SessionLemmas.{answered_alike}
use Rattle.graphql_answers.proofs.session_laws.documents_are_answered_alike.Goals as goal

pub returns : goal.returns
returns c = answered_alike
