use Rattle.graphql_diagnostics.proofs.ReportLemmas.{checks-err, checks_after}
use Rattle.graphql_implementations.proofs.names.validate_implements_interfaces.Goals as goal

pub returns-in_err-check_defined : goal.returns-in_err-check_defined
returns-in_err-check_defined c = checks-err _ _ _ _ _ c.from_residual.ensures.0 (c.in_err-check_defined.ensures)

pub returns : goal.returns
returns c = checks_after c.check_transitive.result _ _ _ _ _ _ (c.in_ok-check_defined.ensures) c.check_transitive.ensures
