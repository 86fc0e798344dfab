use Rattle.std.proofs.Common.{refl}
use Rattle.graphql_specification.specs.Arguments.{RequiredArgumentIsProvided}
use Rattle.graphql_diagnostics.specs.Diagnostics.{IsDiagnostic}
use Rattle.graphql_diagnostics.proofs.ReportLemmas.{checks-err, kept_then, kept_by, walked_more, walked_all}
use Rattle.graphql_values.specs.GivenArguments.{MissingArgumentReport}
use Rattle.graphql_values.proofs.argument.required.validate_required_arguments.Goals as goal

pub returns-in_err-validate_required_argument : goal.returns-in_err-validate_required_argument
returns-in_err-validate_required_argument c =
    checks-err _ _ _ _ _ c.from_residual-in_err-validate_required_argument.ensures.0
    (kept_then (kept_by c.loop-definition.invariant) (c.in_err-validate_required_argument.ensures))

pub loop-definition-preserved : goal.loop-definition-preserved
loop-definition-preserved c =
    walked_more (RequiredArgumentIsProvided c.args.arguments.now.given.now) (IsDiagnostic (MissingArgumentReport c.args.arguments.now))
    c.args.arguments.now.definitions.now c.loop-definition.definition-index c.definition-item.result _ _ _
    c.loop-definition-test.true c.definition-item.is c.loop-definition.invariant (c.in_ok-validate_required_argument.ensures)

pub returns : goal.returns
returns c =
    walked_all (RequiredArgumentIsProvided c.args.arguments.now.given.now) (IsDiagnostic (MissingArgumentReport c.args.arguments.now))
    c.args.arguments.now.definitions.now c.loop-definition.definition-index _ _ _ refl
    c.loop-definition-test.false c.loop-definition.invariant
