use Rattle.std.proofs.Common.{take}
use Rattle.graphql_shown_reports.specs.Shown.{ShowsMore, ShowsRepetition}
use Rattle.graphql_shown_reports.proofs.shown.push_repetitions.Given as goal

abbrev pub invariant-loop-repetition : goal.invariant-loop-repetition
invariant-loop-repetition l = ShowsMore ShowsRepetition (take l.repetition-index l.repetitions) l.fn.shown.items l.shown.items
