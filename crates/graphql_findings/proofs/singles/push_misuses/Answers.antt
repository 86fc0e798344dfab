use Rattle.std.proofs.Common.{refl, rules}
use Rattle.graphql_shown_reports.specs.Shown.{usage}
use Rattle.graphql_findings.proofs.SingleLemmas.{single_more}
use Rattle.graphql_findings.proofs.singles.push_misuses.Goals as goal

pub loop-misuse-preserved : goal.loop-misuse-preserved
loop-misuse-preserved c =
    single_more usage c.args.misuses.now c.loop-misuse.misuse-index _ _ _ _ _ c.loop-misuse-test.true (search rules) refl c.loop-misuse.invariant c.in_ok-push.ensures.items
