use Rattle.graphql_kept_rules.proofs.SaidTextLemmas.{said_text}
use Rattle.graphql_kept_rules.proofs.texts.documents_of_one_tree_say_one_text.Goals as goal

pub returns : goal.returns
returns c = said_text
