use Rattle.graphql_laws.proofs.SeenListLaws.{seen_lists_decide}
use Rattle.graphql_laws.proofs.seen_lists.lists_that_were_seen_decide_merging.Goals as goal

pub returns : goal.returns
returns c = seen_lists_decide
