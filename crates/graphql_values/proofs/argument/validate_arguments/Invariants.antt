use Rattle.std.proofs.Common.{map, take}
use Rattle.graphql_specification.specs.Arguments.{AreRepetitionReports, RepetitionReport, HasDistinctNames}
use Rattle.graphql_diagnostics.specs.Diagnostics.{IsDiagnostic, entries}
use Rattle.graphql_diagnostics.specs.Reports.{Appends, Reports}
use Rattle.graphql_variables.specs.FirstPlaces.{Remembers}
use Rattle.graphql_values.specs.Repetitions.{visited_argument}
use Rattle.graphql_values.proofs.argument.validate_arguments.Given as goal

-- the repetitions so far are reported, and `seen` has the place of the first argument of each name so far
abbrev pub invariant-loop-argument : goal.invariant-loop-argument
invariant-loop-argument l = record {
  appended : Appends (AreRepetitionReports (take l.argument-index l.arguments)) (entries l.initial.diagnostics) (entries l.diagnostics);
  reported : Reports (HasDistinctNames (take l.argument-index l.arguments)) (IsDiagnostic (RepetitionReport l.arguments))
      (entries l.initial.diagnostics) (entries l.diagnostics);
  remembered : Remembers l.seen (map visited_argument (take l.argument-index l.arguments));
}
