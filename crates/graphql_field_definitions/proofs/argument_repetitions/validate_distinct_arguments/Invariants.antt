use Rattle.std.proofs.Common.{map, take}
use Rattle.graphql_diagnostics.specs.Diagnostics.{IsDiagnostic, entries}
use Rattle.graphql_nodes.specs.Names.{AreDistinct}
use Rattle.graphql_diagnostics.specs.Reports.{Reports}
use Rattle.graphql_variables.specs.FirstPlaces.{Remembers}
use Rattle.graphql_field_definitions.specs.FieldDefinitionSteps.{RepetitionsReport, visited_argument}
use Rattle.graphql_field_definitions.proofs.argument_repetitions.validate_distinct_arguments.Given as goal

-- the repetitions so far are reported, and `seen` has the place of the first argument of each name so far
abbrev pub invariant-loop-argument : goal.invariant-loop-argument
invariant-loop-argument l = record {
  reported : Reports (AreDistinct (map (λ d. d.value.value.name) (map (λ d. d.now) (take l.argument-index l.arguments))))
      (IsDiagnostic (RepetitionsReport (map (λ d. d.now) l.arguments))) (entries l.initial.diagnostics) (entries l.diagnostics);
  remembered : Remembers l.seen (map visited_argument (map (λ d. d.now) (take l.argument-index l.arguments)));
}
