use Rattle.std.proofs.Common.{map, take}
use Rattle.graphql_nodes.specs.Names.{AreDistinct}
use Rattle.graphql_diagnostics.specs.Reports.{Reports}
use Rattle.graphql_variables.specs.FirstPlaces.{Remembers}
use Rattle.graphql_building_reports.specs.Checks.{reports_of}
use Rattle.graphql_repetitions.specs.References.{nows}
use Rattle.graphql_repetitions.specs.Repetitions.{RepetitionReport, met_name, repetition_rule}
use Rattle.graphql_repetitions.proofs.repetitions.check_repetitions.Given as goal

-- repetitions so far are reported, and `seen` has the place of the first of each name so far
abbrev pub invariant-loop-name : goal.invariant-loop-name
invariant-loop-name l = record {
  reported : Reports (AreDistinct (nows (take l.name-index l.names))) (RepetitionReport (nows l.names) (repetition_rule l.what))
      (reports_of l.initial.reports) (reports_of l.reports);
  remembered : Remembers l.seen (map met_name (nows (take l.name-index l.names)));
}
