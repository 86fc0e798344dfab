use Rattle.graphql_kept_rules.proofs.TextOperationLemmas.{fragments_used_too}
use Rattle.graphql_kept_rules.proofs.texts.fragments_of_one_text_are_used_alike.Goals as goal

pub returns : goal.returns
returns c = fragments_used_too
