use Rattle.graphql_diagnostics.specs.Diagnostics.{IsDiagnostic}
use Rattle.graphql_documents.specs.declared.documents.components.ComponentName.{ComponentName}
use Rattle.graphql_diagnostics.proofs.ReportLemmas.{checks-err, kept_by, kept_then, walked_all, walked_more, walked_none}
use Rattle.graphql_implementations.specs.ImplementationSteps.{ListingReport, NamesInterface}
use Rattle.graphql_implementations.proofs.ImplementationLemmas.{stands_at}
use Rattle.graphql_implementations.proofs.names.ListedInterfaces.check_defined.Goals as goal

pub loop-listed-init : goal.loop-listed-init
loop-listed-init c = walked_none _ _ c.as_slice-listed-items.result.now _

pub check_is_interface-requires : goal.check_is_interface-requires
check_is_interface-requires c =
    stands_at c.as_slice-listed-items.result.now c.args.self.now.names.now.keys c.loop-listed.listed-index c.listed-item.result
    c.as_slice-listed-items.ensures.keys c.loop-listed-test.true c.listed-item.is

pub returns-in_err-check_is_interface : goal.returns-in_err-check_is_interface
returns-in_err-check_is_interface c =
    checks-err _ _ _ _ _ c.from_residual.ensures.0 (kept_then (kept_by c.loop-listed.invariant) (c.in_err-check_is_interface.ensures))

pub loop-listed-preserved : goal.loop-listed-preserved
loop-listed-preserved c =
    walked_more (λ (listed : ComponentName). NamesInterface c.args.self.now.schema.now listed.name) (IsDiagnostic (ListingReport c.args.self.now))
    c.as_slice-listed-items.result.now c.loop-listed.listed-index c.listed-item.result _ _ _
    c.loop-listed-test.true c.listed-item.is c.loop-listed.invariant (c.in_ok-check_is_interface.ensures)

pub returns : goal.returns
returns c =
    walked_all (λ (listed : ComponentName). NamesInterface c.args.self.now.schema.now listed.name) (IsDiagnostic (ListingReport c.args.self.now))
    c.as_slice-listed-items.result.now c.loop-listed.listed-index _ _ _ c.as_slice-listed-items.ensures.keys
    c.loop-listed-test.false c.loop-listed.invariant
