use Rattle.std.proofs.Common.{refl}
use Rattle.graphql_diagnostics.specs.Diagnostics.{IsDiagnostic}
use Rattle.graphql_diagnostics.proofs.ReportLemmas.{checks-err, kept_then, kept_by, walked_more, walked_all}
use Rattle.graphql_values.specs.GivenArguments.{GivenArgumentHolds, GivenArgumentReport}
use Rattle.graphql_values.proofs.argument.given.validate_given_arguments.Goals as goal

pub returns-in_err-validate_given_argument : goal.returns-in_err-validate_given_argument
returns-in_err-validate_given_argument c =
    checks-err _ _ _ _ _ c.from_residual-in_err-validate_given_argument.ensures.0
    (kept_then (kept_by c.loop-argument.invariant) (c.in_err-validate_given_argument.ensures))

pub loop-argument-preserved : goal.loop-argument-preserved
loop-argument-preserved c =
    walked_more (GivenArgumentHolds c.args.schema.now c.args.variables.now c.args.arguments.now.definitions.now)
    (IsDiagnostic (GivenArgumentReport c.args.schema.now c.args.variables.now c.args.arguments.now))
    c.args.arguments.now.given.now c.loop-argument.argument-index c.argument-item.result _ _ _
    c.loop-argument-test.true c.argument-item.is c.loop-argument.invariant (c.in_ok-validate_given_argument.ensures)

pub returns : goal.returns
returns c =
    walked_all (GivenArgumentHolds c.args.schema.now c.args.variables.now c.args.arguments.now.definitions.now)
    (IsDiagnostic (GivenArgumentReport c.args.schema.now c.args.variables.now c.args.arguments.now))
    c.args.arguments.now.given.now c.loop-argument.argument-index _ _ _ refl
    c.loop-argument-test.false c.loop-argument.invariant
