use Rattle.std.proofs.Common.{All}
use Rattle.graphql_specification.specs.Defer.{DeferHolds, LabelsHold, OperationDeferHolds}
use Rattle.graphql_documents.specs.Executables.{operations_of}
use Rattle.graphql_diagnostics.specs.Diagnostics.{IsLimitEntry, entries}
use Rattle.graphql_documents.specs.Selections.{fragments_of}
use Rattle.graphql_documents.specs.declared.documents.executables.Operation.{Operation}
use Rattle.graphql_nodes.specs.declared.nodes.Node.{Node}
use Rattle.graphql_diagnostics.proofs.ReportWithinLemmas.{checks_after_within, checks_words_within}
use Rattle.graphql_operations.specs.DeferLabels.{DeferEntryReport}
use Rattle.graphql_operations.proofs.DeferLemmas.{defer_decides}
use Rattle.graphql_variables.proofs.FirstPlaceLemmas.{holds_on_ok}
use Rattle.graphql_operations.proofs.defer.validate_defer.Goals as goal

pub returns : goal.returns
returns c =
    let D = c.args.document.now in
    let Each = All (λ (o : Node Operation). OperationDeferHolds (fragments_of D) o.value.value) (operations_of D) in
    let Q = DeferEntryReport D in
    let old = entries c.args.diagnostics.now in
    let mid = entries c.validate_labels.new.diagnostics in
    let new = entries c.check_operations.new.diagnostics in
    checks_words_within IsLimitEntry c.check_operations.result (LabelsHold D × Each) (DeferHolds D) Q Q old new (holds_on_ok c.check_operations.result _ (defer_decides D)) (λ e q. q)
    (checks_after_within IsLimitEntry c.check_operations.result (LabelsHold D) Each Q old mid new c.in_ok-validate_labels.ensures c.check_operations.ensures)
