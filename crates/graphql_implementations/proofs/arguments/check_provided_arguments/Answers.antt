use Rattle.std.proofs.Common.{◌∙◌, ap}
use Rattle.graphql_diagnostics.specs.Diagnostics.{IsDiagnostic}
use Rattle.graphql_documents.specs.declared.documents.definitions.FieldDefinition.{FieldDefinition}
use Rattle.graphql_diagnostics.proofs.ReportLemmas.{checks-err, kept_by, kept_then, walked_all, walked_more, walked_none}
use Rattle.graphql_implementations.specs.ImplementationSteps.{ImplementedArgumentsReport, IsArgumentImplemented, arguments_of}
use Rattle.graphql_implementations.proofs.ImplementationLemmas.{stands_at}
use Rattle.graphql_implementations.proofs.arguments.check_provided_arguments.Goals as goal

pub loop-argument-init : goal.loop-argument-init
loop-argument-init c = walked_none _ _ c.deref-argument-items.result.now _

pub check_provided_argument-requires-clause-stands : goal.check_provided_argument-requires-clause-stands
check_provided_argument-requires-clause-stands c =
    stands_at c.deref-argument-items.result.now (arguments_of c.args.field.now.wanted.now) c.loop-argument.argument-index c.argument-item.result
    (c.deref-argument-items.ensures.value ∙ ap (λ (d : FieldDefinition). d.arguments.items) c.deref.ensures)
    c.loop-argument-test.true c.argument-item.is

pub returns-in_err-check_provided_argument : goal.returns-in_err-check_provided_argument
returns-in_err-check_provided_argument c =
    checks-err _ _ _ _ _ c.from_residual.ensures.0 (kept_then (kept_by c.loop-argument.invariant) (c.in_err-check_provided_argument.ensures))

pub loop-argument-preserved : goal.loop-argument-preserved
loop-argument-preserved c =
    walked_more (IsArgumentImplemented (arguments_of c.args.field.now.own.now)) (IsDiagnostic (ImplementedArgumentsReport c.args.field.now.implementer.now))
    c.deref-argument-items.result.now c.loop-argument.argument-index c.argument-item.result _ _ _
    c.loop-argument-test.true c.argument-item.is c.loop-argument.invariant (c.in_ok-check_provided_argument.ensures)

pub returns : goal.returns
returns c =
    walked_all (IsArgumentImplemented (arguments_of c.args.field.now.own.now)) (IsDiagnostic (ImplementedArgumentsReport c.args.field.now.implementer.now))
    c.deref-argument-items.result.now c.loop-argument.argument-index _ _ _
    (c.deref-argument-items.ensures.value ∙ ap (λ (d : FieldDefinition). d.arguments.items) c.deref.ensures)
    c.loop-argument-test.false c.loop-argument.invariant
