use Rattle.std.proofs.Common.{take}
use Rattle.graphql_shown_reports.specs.Shown.{ShowsMore, ShowsBuilding}
use Rattle.graphql_shown_reports.proofs.shown.push_building.Given as goal

abbrev pub invariant-loop-report : goal.invariant-loop-report
invariant-loop-report l = ShowsMore ShowsBuilding (take l.report-index l.reports) l.fn.shown.items l.shown.items
