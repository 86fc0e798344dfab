use Rattle.std.proofs.Common.{refl, rules}
use Rattle.graphql_shown_reports.specs.Shown.{validation}
use Rattle.graphql_findings.proofs.SingleLemmas.{single_more}
use Rattle.graphql_findings.proofs.singles.push_rules.Goals as goal

pub loop-entry-preserved : goal.loop-entry-preserved
loop-entry-preserved c =
    single_more validation c.args.rules.now c.loop-entry.entry-index _ _ _ _ _ c.loop-entry-test.true (search rules) refl c.loop-entry.invariant c.in_ok-push.ensures.items
