use Rattle.graphql_parser.proofs.RefusalLemmas.{one_place}
use Rattle.graphql_parser.proofs.laws.a_syntax_error_has_one_place.Goals as goal

pub returns : goal.returns
returns c = λ bounds file_id text error other a b n m. one_place bounds file_id text error other a b n m
