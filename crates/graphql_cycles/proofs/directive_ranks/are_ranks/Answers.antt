use Rattle.graphql_cycles.proofs.DirectiveRankLemmas.{are_ranks}
use Rattle.graphql_cycles.proofs.directive_ranks.are_ranks.Goals as goal

pub returns-then-directives : goal.returns-then-directives
returns-then-directives c = λ yes.
    are_ranks c.args.schema.now c.args.ranks.now (c.in_ok-directives.ensures c.if-directives.true) (c.in_ok-types.ensures yes)
