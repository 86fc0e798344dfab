use Rattle.graphql_kept_rules.proofs.TextNestingLemmas.{nests_too}
use Rattle.graphql_kept_rules.proofs.texts.documents_of_one_text_nest_alike.Goals as goal

pub returns : goal.returns
returns c = nests_too
