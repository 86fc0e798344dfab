use Rattle.std.proofs.Common.{◌≡◌, ◌++◌, map, take}
use Rattle.graphql_findings.specs.Singles.{report_of}
use Rattle.graphql_shown_reports.specs.Shown.{building}
use Rattle.graphql_findings.proofs.singles.push_building.Given as goal

abbrev pub invariant-loop-report : goal.invariant-loop-report
invariant-loop-report l = map report_of l.singles.items ≡ map report_of l.fn.singles.items ++ map building (take l.report-index l.reports)
