use Rattle.std.proofs.Common.{rules}
use Rattle.graphql_shown_reports.specs.Shown.{ShowsBuilding}
use Rattle.graphql_shown_reports.proofs.ShownLemmas.{all_shown, none_shown, shown_more}
use Rattle.graphql_shown_reports.proofs.shown.push_building.Goals as goal

pub loop-report-init : goal.loop-report-init
loop-report-init c = none_shown ShowsBuilding c.args.shown.now.items

pub loop-report-preserved : goal.loop-report-preserved
loop-report-preserved c =
    shown_more ShowsBuilding c.args.reports.now c.loop-report.report-index _ _ _ _ _
    c.loop-report-test.true (search rules) c.loop-report.invariant c.in_ok-shown_building.ensures c.in_ok-push.ensures.items

pub returns : goal.returns
returns c = all_shown ShowsBuilding c.args.reports.now c.loop-report.report-index _ _ c.loop-report-test.false c.loop-report.invariant
