use Rattle.std.proofs.Common.{◌≡◌, ◌++◌, map, take}
use Rattle.graphql_findings.specs.Singles.{report_of}
use Rattle.graphql_shown_reports.specs.Shown.{syntax}
use Rattle.graphql_findings.proofs.singles.push_syntax.Given as goal

abbrev pub invariant-loop-error : goal.invariant-loop-error
invariant-loop-error l = map report_of l.singles.items ≡ map report_of l.fn.singles.items ++ map syntax (take l.error-index l.errors)
