use Rattle.std.proofs.Common.{take}
use Rattle.graphql_shown_reports.specs.Shown.{ShowsMore, ShowsEntry}
use Rattle.graphql_shown_reports.proofs.shown.push_rules.Given as goal

abbrev pub invariant-loop-entry : goal.invariant-loop-entry
invariant-loop-entry l = ShowsMore ShowsEntry (take l.entry-index l.rules) l.fn.shown.items l.shown.items
