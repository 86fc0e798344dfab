use Rattle.graphql_tokens.proofs.LexingLemmas.{one_list}
use Rattle.graphql_tokens.proofs.laws.a_text_has_one_list_of_tokens.Goals as goal

pub returns : goal.returns
returns c = one_list
