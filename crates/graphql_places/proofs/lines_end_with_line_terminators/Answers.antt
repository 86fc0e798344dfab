use Rattle.graphql_places.proofs.PlaceLemmas.{ends_is, ends_read}
use Rattle.graphql_places.proofs.lines_end_with_line_terminators.Goals as goal

pub returns : goal.returns
returns c = λ text k. (ends_is text k, ends_read text k)
