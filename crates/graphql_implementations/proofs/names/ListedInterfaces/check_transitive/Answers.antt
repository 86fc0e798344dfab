use Rattle.graphql_diagnostics.specs.Diagnostics.{IsDiagnostic}
use Rattle.graphql_documents.specs.declared.documents.components.ComponentName.{ComponentName}
use Rattle.graphql_diagnostics.proofs.ReportLemmas.{checks-err, in_words, kept_by, kept_then, walked_all, walked_more, walked_none}
use Rattle.graphql_implementations.specs.ImplementationSteps.{ListingReport, ListsAllOf}
use Rattle.graphql_implementations.proofs.ImplementationLemmas.{stands_at, transitive_decides}
use Rattle.graphql_implementations.proofs.names.ListedInterfaces.check_transitive.Goals as goal

pub loop-listed-init : goal.loop-listed-init
loop-listed-init c = walked_none _ _ c.as_slice-listed-items.result.now _

pub check_lists_all_of-requires : goal.check_lists_all_of-requires
check_lists_all_of-requires c =
    stands_at c.as_slice-listed-items.result.now c.args.self.now.names.now.keys c.loop-listed.listed-index c.listed-item.result
    c.as_slice-listed-items.ensures.keys c.loop-listed-test.true c.listed-item.is

pub returns-in_err-check_lists_all_of : goal.returns-in_err-check_lists_all_of
returns-in_err-check_lists_all_of c =
    checks-err _ _ _ _ _ c.from_residual.ensures.0 (kept_then (kept_by c.loop-listed.invariant) (c.in_err-check_lists_all_of.ensures))

pub loop-listed-preserved : goal.loop-listed-preserved
loop-listed-preserved c =
    walked_more (λ (listed : ComponentName). ListsAllOf c.args.self.now.schema.now c.args.self.now.names.now.keys listed) (IsDiagnostic (ListingReport c.args.self.now))
    c.as_slice-listed-items.result.now c.loop-listed.listed-index c.listed-item.result _ _ _
    c.loop-listed-test.true c.listed-item.is c.loop-listed.invariant (c.in_ok-check_lists_all_of.ensures)

pub returns : goal.returns
returns c =
    in_words (transitive_decides c.args.self.now.schema.now c.args.self.now.names.now.keys)
    (walked_all (λ (listed : ComponentName). ListsAllOf c.args.self.now.schema.now c.args.self.now.names.now.keys listed) (IsDiagnostic (ListingReport c.args.self.now))
    c.as_slice-listed-items.result.now c.loop-listed.listed-index _ _ _ c.as_slice-listed-items.ensures.keys
    c.loop-listed-test.false c.loop-listed.invariant)
