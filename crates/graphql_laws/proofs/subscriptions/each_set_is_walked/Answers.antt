use Rattle.graphql_laws.proofs.WalkExistsLaws.{has_walk}
use Rattle.graphql_laws.proofs.subscriptions.each_set_is_walked.Goals as goal

pub returns : goal.returns
returns c = has_walk
