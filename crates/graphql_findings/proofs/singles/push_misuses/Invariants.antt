use Rattle.std.proofs.Common.{◌≡◌, ◌++◌, map, take}
use Rattle.graphql_findings.specs.Singles.{report_of}
use Rattle.graphql_shown_reports.specs.Shown.{usage}
use Rattle.graphql_findings.proofs.singles.push_misuses.Given as goal

abbrev pub invariant-loop-misuse : goal.invariant-loop-misuse
invariant-loop-misuse l = map report_of l.singles.items ≡ map report_of l.fn.singles.items ++ map usage (take l.misuse-index l.misuses)
