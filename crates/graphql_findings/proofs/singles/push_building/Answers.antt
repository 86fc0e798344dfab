use Rattle.std.proofs.Common.{refl, rules}
use Rattle.graphql_shown_reports.specs.Shown.{building}
use Rattle.graphql_findings.proofs.SingleLemmas.{single_more}
use Rattle.graphql_findings.proofs.singles.push_building.Goals as goal

pub loop-report-preserved : goal.loop-report-preserved
loop-report-preserved c =
    single_more building c.args.reports.now c.loop-report.report-index _ _ _ _ _ c.loop-report-test.true (search rules) refl c.loop-report.invariant c.in_ok-push.ensures.items
