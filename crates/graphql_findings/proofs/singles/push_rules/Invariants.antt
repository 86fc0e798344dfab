use Rattle.std.proofs.Common.{◌≡◌, ◌++◌, map, take}
use Rattle.graphql_findings.specs.Singles.{report_of}
use Rattle.graphql_shown_reports.specs.Shown.{validation}
use Rattle.graphql_findings.proofs.singles.push_rules.Given as goal

abbrev pub invariant-loop-entry : goal.invariant-loop-entry
invariant-loop-entry l = map report_of l.singles.items ≡ map report_of l.fn.singles.items ++ map validation (take l.entry-index l.rules)
