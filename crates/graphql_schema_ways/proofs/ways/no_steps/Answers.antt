use Rattle.std.proofs.Common.{◌≡◌, Some, subst}
use Rattle.graphql_schema_ways.specs.Ways.{step_at}
use Rattle.graphql_schema_ways.proofs.WayLemmas.{no_step_in, no_step_more}
use Rattle.graphql_schema_ways.proofs.ways.no_steps.Goals as goal

pub loop-init : goal.loop-init
loop-init c = λ index s e. no_step_in index s (subst (λ steps. step_at steps index ≡ Some s) c.new-steps.ensures.items e)

pub loop-preserved : goal.loop-preserved
loop-preserved c = λ index s e.
    no_step_more c.loop.steps.items c.loop.invariant index s (subst (λ steps. step_at steps index ≡ Some s) c.in_ok-push.ensures.items e)

pub returns : goal.returns
returns c = λ index s e. absurd (c.loop.invariant index s e)
