use Rattle.std.proofs.Common.{take}
use Rattle.graphql_diagnostics.specs.Diagnostics.{entries}
use Rattle.graphql_diagnostics.specs.Reports.{Reports}
use Rattle.graphql_schemas.proofs.DefaultValueLemmas.{Break, Hold}
use Rattle.graphql_schemas.proofs.default_values.validate_arguments.Given as goal

abbrev pub invariant-loop-argument : goal.invariant-loop-argument
invariant-loop-argument l =
    Reports (Hold l.schema (take l.argument-index l.arguments)) (Break l.schema l.arguments) (entries l.initial.diagnostics) (entries l.diagnostics)
