use Rattle.graphql_parser.proofs.ParseLemmas.{one_document}
use Rattle.graphql_parser.proofs.laws.a_text_is_one_document.Goals as goal

pub returns : goal.returns
returns c = λ bounds others file_id text tree other a b. one_document bounds others file_id text tree other a b
