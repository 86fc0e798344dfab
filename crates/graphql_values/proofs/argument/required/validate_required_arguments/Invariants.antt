use Rattle.std.proofs.Common.{All, take}
use Rattle.graphql_specification.specs.Arguments.{RequiredArgumentIsProvided}
use Rattle.graphql_diagnostics.specs.Diagnostics.{IsDiagnostic, entries}
use Rattle.graphql_diagnostics.specs.Reports.{Reports}
use Rattle.graphql_values.specs.GivenArguments.{MissingArgumentReport}
use Rattle.graphql_values.proofs.argument.required.validate_required_arguments.Given as goal

abbrev pub invariant-loop-definition : goal.invariant-loop-definition
invariant-loop-definition l =
    Reports (All (RequiredArgumentIsProvided l.arguments.given.now) (take l.definition-index l.definition-items))
    (IsDiagnostic (MissingArgumentReport l.arguments)) (entries l.initial.diagnostics) (entries l.diagnostics)
