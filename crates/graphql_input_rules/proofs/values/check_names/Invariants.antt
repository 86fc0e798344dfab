use Rattle.std.proofs.Common.{map, take}
use Rattle.graphql_nodes.specs.Names.{AreDistinct}
use Rattle.graphql_diagnostics.specs.Reports.{Reports}
use Rattle.graphql_variables.specs.FirstPlaces.{Remembers}
use Rattle.graphql_repetitions.specs.Repetitions.{met_name}
use Rattle.graphql_input_rules.specs.InputFields.{RepetitionReport, entry_names}
use Rattle.graphql_input_rules.proofs.values.check_names.Given as goal

-- repetitions so far are reported, and `seen` has the place of the first of each name so far
abbrev pub invariant-loop-name : goal.invariant-loop-name
invariant-loop-name l = record {
  reported : Reports (AreDistinct (entry_names (take l.name-index l.entries))) (RepetitionReport (entry_names l.entries)) l.initial.reports.kept.items l.reports.kept.items;
  remembered : Remembers l.seen (map met_name (entry_names (take l.name-index l.entries)));
}
