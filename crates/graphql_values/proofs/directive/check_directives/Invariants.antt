use Rattle.std.proofs.Common.{map, take}
use Rattle.std.specs.Option.{option_copied}
use Rattle.graphql_diagnostics.specs.Diagnostics.{IsDiagnostic, entries}
use Rattle.graphql_specification.specs.Directives.{DirectivesReport, ApplicationsHold}
use Rattle.graphql_diagnostics.specs.Reports.{Reports}
use Rattle.graphql_values.specs.DirectiveSteps.{visited_directive}
use Rattle.graphql_variables.specs.FirstPlaces.{Remembers}
use Rattle.graphql_values.proofs.directive.check_directives.Given as goal

-- what is wrong with the directives so far is reported, and `seen` has the head of the first of each name so far
abbrev pub invariant-loop-directive : goal.invariant-loop-directive
invariant-loop-directive l = record {
  reported : Reports (ApplicationsHold (option_copied l.schema) l.variables l.location (map (λ d. d.now) (take l.directive-index l.directives)))
      (IsDiagnostic (DirectivesReport (option_copied l.schema) l.variables l.location (map (λ d. d.now) l.directives)))
      (entries l.initial.diagnostics) (entries l.diagnostics);
  remembered : Remembers l.seen (map visited_directive (map (λ d. d.now) (take l.directive-index l.directives)));
}
