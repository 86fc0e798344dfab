use Rattle.std.proofs.Common.{All, take}
use Rattle.graphql_diagnostics.specs.Diagnostics.{IsDiagnostic, entries}
use Rattle.graphql_diagnostics.specs.Reports.{Reports}
use Rattle.graphql_implementations.specs.ImplementationSteps.{ImplementedArgumentsReport, IsArgumentImplemented, arguments_of}
use Rattle.graphql_implementations.proofs.arguments.check_provided_arguments.Given as goal

abbrev pub invariant-loop-argument : goal.invariant-loop-argument
invariant-loop-argument l =
    Reports (All (IsArgumentImplemented (arguments_of l.field.own.now)) (take l.argument-index l.argument-items))
    (IsDiagnostic (ImplementedArgumentsReport l.field.implementer.now)) (entries l.initial.diagnostics) (entries l.diagnostics)
