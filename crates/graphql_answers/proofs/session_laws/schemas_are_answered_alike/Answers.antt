use Rattle.graphql_answers.proofs.SessionLemmas.{read_alike}
use Rattle.graphql_answers.proofs.session_laws.schemas_are_answered_alike.Goals as goal

pub returns : goal.returns
returns c = read_alike
