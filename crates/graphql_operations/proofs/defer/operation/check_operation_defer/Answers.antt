use Rattle.graphql_diagnostics.specs.Diagnostics.{IsLimitEntry}
use Rattle.graphql_documents.specs.Selections.{fragments_of}
use Rattle.graphql_diagnostics.proofs.ReportWithinLemmas.{checks_after_within, checks_words_within}
use Rattle.graphql_operations.proofs.OperationDeferLemmas.{answered, operation_holds}
use Rattle.graphql_operations.proofs.defer.operation.check_operation_defer.Goals as goal

pub returns : goal.returns
returns c =
    let r = c.check_conditions.result in
    checks_words_within IsLimitEntry r _ _ _ _ _ _
    (answered r (operation_holds (fragments_of c.args.document.now) c.args.operation.now))
    (λ e said. said) (checks_after_within IsLimitEntry r _ _ _ _ _ _ c.in_ok-check_root.ensures c.check_conditions.ensures)
