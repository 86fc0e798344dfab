use Rattle.std.proofs.Common.{◌≡◌, ◌++◌, map, take}
use Rattle.graphql_findings.specs.Singles.{report_of}
use Rattle.graphql_shown_reports.specs.Shown.{input_field}
use Rattle.graphql_findings.proofs.singles.push_repetitions.Given as goal

abbrev pub invariant-loop-repetition : goal.invariant-loop-repetition
invariant-loop-repetition l = map report_of l.singles.items ≡ map report_of l.fn.singles.items ++ map input_field (take l.repetition-index l.repetitions)
