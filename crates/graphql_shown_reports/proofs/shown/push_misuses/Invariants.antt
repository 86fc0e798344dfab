use Rattle.std.proofs.Common.{take}
use Rattle.graphql_shown_reports.specs.Shown.{ShowsMore, ShowsMisuse}
use Rattle.graphql_shown_reports.proofs.shown.push_misuses.Given as goal

abbrev pub invariant-loop-misuse : goal.invariant-loop-misuse
invariant-loop-misuse l = ShowsMore ShowsMisuse (take l.misuse-index l.misuses) l.fn.shown.items l.shown.items
