use Rattle.std.proofs.Common.{All, take}
use Rattle.graphql_diagnostics.specs.Diagnostics.{IsDiagnostic, entries}
use Rattle.graphql_diagnostics.specs.Reports.{Reports}
use Rattle.graphql_values.specs.GivenArguments.{GivenArgumentHolds, GivenArgumentReport}
use Rattle.graphql_values.proofs.argument.given.validate_given_arguments.Given as goal

abbrev pub invariant-loop-argument : goal.invariant-loop-argument
invariant-loop-argument l =
    Reports (All (GivenArgumentHolds l.schema l.variables l.arguments.definitions.now) (take l.argument-index l.argument-items))
    (IsDiagnostic (GivenArgumentReport l.schema l.variables l.arguments)) (entries l.initial.diagnostics) (entries l.diagnostics)
