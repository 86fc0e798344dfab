use Rattle.graphql_tokens.proofs.LexingLemmas.{one_break, no_list_and_break}
use Rattle.graphql_tokens.proofs.laws.a_text_breaks_off_at_one_place.Goals as goal

pub returns-clause-one : goal.returns-clause-one
returns-clause-one c = one_break

pub returns-clause-instead : goal.returns-clause-instead
returns-clause-instead c = no_list_and_break
