use Rattle.graphql_kept_rules.proofs.TextReachedByteLemmas.{reaches_within_too}
use Rattle.graphql_kept_rules.proofs.texts.documents_of_one_text_reach_alike.Goals as goal

pub returns : goal.returns
returns c = reaches_within_too
