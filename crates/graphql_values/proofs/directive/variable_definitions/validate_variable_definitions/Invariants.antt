use Rattle.std.proofs.Common.{map, take}
use Rattle.std.specs.Option.{option_copied}
use Rattle.graphql_diagnostics.specs.Diagnostics.{IsDiagnostic, entries}
use Rattle.graphql_diagnostics.specs.Reports.{Reports}
use Rattle.graphql_specification.specs.Variables.{VariablesReport, VariableDefinitionsHold}
use Rattle.graphql_variables.specs.FirstPlaces.{Remembers}
use Rattle.graphql_values.specs.VariableSteps.{visited_variable}
use Rattle.graphql_values.proofs.directive.variable_definitions.validate_variable_definitions.Given as goal

-- what is wrong with the variables so far is reported, and `seen` has the place of the first of each name so far
abbrev pub invariant-loop-variable : goal.invariant-loop-variable
invariant-loop-variable l = record {
  reported : Reports (VariableDefinitionsHold (option_copied l.schema) (take l.variable-index l.variables))
      (IsDiagnostic (VariablesReport (option_copied l.schema) l.variables)) (entries l.initial.diagnostics) (entries l.diagnostics);
  remembered : Remembers l.seen (map visited_variable (take l.variable-index l.variables));
}
