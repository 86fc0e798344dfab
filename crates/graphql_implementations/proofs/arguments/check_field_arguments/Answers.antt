use Rattle.graphql_diagnostics.proofs.ReportLemmas.{checks-err, checks_after, checks_words}
use Rattle.graphql_implementations.proofs.ImplementationLemmas.{arguments_agree}
use Rattle.graphql_implementations.proofs.arguments.check_field_arguments.Goals as goal

pub returns-in_err-check_provided_arguments : goal.returns-in_err-check_provided_arguments
returns-in_err-check_provided_arguments c = checks-err _ _ _ _ _ c.from_residual-in_err-check_provided_arguments.ensures.0 (c.in_err-check_provided_arguments.ensures)

pub returns : goal.returns
returns c =
    checks_words c.check_further_arguments.result _ _ _ _ _ _ (arguments_agree c.args.field.now.wanted.now c.args.field.now.own.now) (λ e said. said)
    (checks_after c.check_further_arguments.result _ _ _ _ _ _ (c.in_ok-check_provided_arguments.ensures) c.check_further_arguments.ensures)
