use Rattle.std.proofs.Common.{take}
use Rattle.graphql_shown_reports.specs.Shown.{ShowsMore, ShowsSyntax}
use Rattle.graphql_shown_reports.proofs.shown.push_syntax.Given as goal

abbrev pub invariant-loop-error : goal.invariant-loop-error
invariant-loop-error l = ShowsMore (ShowsSyntax l.sources l.bounds) (take l.error-index l.errors) l.fn.shown.items l.shown.items
