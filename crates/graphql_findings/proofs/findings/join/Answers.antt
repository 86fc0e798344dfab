use Rattle.std.proofs.Common.{refl, rules}
use Rattle.graphql_findings.proofs.FindingLemmas.{join_step}
use Rattle.graphql_findings.proofs.findings.join.Goals as goal

pub loop-single-preserved : goal.loop-single-preserved
loop-single-preserved c =
    join_step c.args.shown.items c.args.singles.now c.loop-single.single-index _ _ c.in-Some.report _ _ _ _ _ _ _
    c.requires c.loop-single-test.true (search rules) c.loop-single.invariant c.in-Some.ensures.cases.0 c.in-Some.ensures.cases.1 refl refl c.in_ok-push.ensures.items
