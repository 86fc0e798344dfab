use Rattle.graphql_cycles.proofs.DirectiveRankLemmas.{ranks_of_levels}
use Rattle.graphql_cycles.proofs.directive_ranks.find_ranks.Goals as goal

pub returns : goal.returns
returns c = ranks_of_levels (c.unknown.ensures c.args.schema.now)
