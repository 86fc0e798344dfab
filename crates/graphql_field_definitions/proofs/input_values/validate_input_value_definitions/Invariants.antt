use Rattle.std.proofs.Common.{All, map, take}
use Rattle.graphql_diagnostics.specs.Diagnostics.{IsDiagnostic, entries}
use Rattle.graphql_specification.specs.InputValueDefinitions.{InputValuesReport, InputValueDefinitionHolds}
use Rattle.graphql_diagnostics.specs.Reports.{Reports}
use Rattle.graphql_specification.specs.BuiltInScalars.{argument_types}
use Rattle.graphql_field_definitions.specs.BuiltInScalarUses.{Records}
use Rattle.graphql_field_definitions.proofs.input_values.validate_input_value_definitions.Given as goal

-- what is wrong with those so far is reported, and the types to which they refer are recorded
abbrev pub invariant-loop-input_value : goal.invariant-loop-input_value
invariant-loop-input_value l = record {
  reported : Reports (All (λ d. InputValueDefinitionHolds l.schema l.location d.value.value) (map (λ d. d.now) (take l.input_value-index l.input_values)))
      (IsDiagnostic (InputValuesReport l.schema l.location l.describe (map (λ d. d.now) l.input_values))) (entries l.initial.diagnostics) (entries l.diagnostics);
  recorded : Records l.initial.built_in_scalars l.built_in_scalars (argument_types (map (λ d. d.now) (take l.input_value-index l.input_values)));
}
