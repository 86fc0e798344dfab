use Rattle.std.proofs.Common.{◌≡◌, All, Bor, Contains, List, map, refl, sym, ap, ◌∙◌, subst}
use Rattle.std.proofs.lemmas.Result.{MatchResult-from_err}
use Rattle.graphql_specification.specs.Defer.{OperationDeferHolds}
use Rattle.graphql_documents.specs.Executables.{operations_of}
use Rattle.graphql_diagnostics.specs.Diagnostics.{IsLimitEntry, entries}
use Rattle.graphql_documents.specs.Selections.{fragments_of}
use Rattle.graphql_documents.specs.declared.documents.executables.Operation.{Operation}
use Rattle.graphql_nodes.specs.declared.nodes.Node.{Node}
use Rattle.graphql_diagnostics.proofs.ReportLemmas.{kept_then}
use Rattle.graphql_diagnostics.proofs.ReportWithinLemmas.{in_words_within, kept_within, walked_all_within, walked_more_within, walked_none_within}
use Rattle.graphql_operations.specs.DeferLabels.{DeferEntryReport}
use Rattle.graphql_operations.proofs.DeferLemmas.{operation_checked, operation_kept}
use Rattle.graphql_variables.proofs.ReferenceLemmas.{all_referred, stands_referred}
use Rattle.graphql_operations.proofs.defer.check_operations.Goals as goal

pub loop-operation-init : goal.loop-operation-init
loop-operation-init c =
    walked_none_within IsLimitEntry (λ (o : Bor (Node Operation)). OperationDeferHolds (fragments_of c.args.document.now) o.now.value.value)
    (DeferEntryReport c.args.document.now) c.deref-operation-items.result.now (entries c.args.diagnostics.now)

pub returns-in_err-check_operation_defer : goal.returns-in_err-check_operation_defer
returns-in_err-check_operation_defer c =
    let D = c.args.document.now in
    let xs = c.deref-operation-items.result.now in
    let x = c.operation-item.result in
    let among : Contains (operations_of D) x.now =
    subst (λ l. Contains l x.now) (ap (λ (l : List (Bor (Node Operation))). map (λ b. b.now) l) c.deref-operation-items.ensures.value ∙ c.in_ok-operations.ensures)
    (stands_referred xs c.loop-operation.operation-index x c.loop-operation-test.true c.operation-item.is) in
    MatchResult-from_err _ _ _ c.from_residual-in_err-check_operation_defer.ensures.0
    (λ y. kept_then (kept_within IsLimitEntry c.loop-operation.invariant)
    (operation_kept D x.now among _ _ _ c.deref.ensures c.in_err-check_operation_defer.ensures))

pub loop-operation-preserved : goal.loop-operation-preserved
loop-operation-preserved c =
    let D = c.args.document.now in
    let xs = c.deref-operation-items.result.now in
    let i = c.loop-operation.operation-index in
    let x = c.operation-item.result in
    let among : Contains (operations_of D) x.now =
    subst (λ l. Contains l x.now) (ap (λ (l : List (Bor (Node Operation))). map (λ b. b.now) l) c.deref-operation-items.ensures.value ∙ c.in_ok-operations.ensures)
    (stands_referred xs i x c.loop-operation-test.true c.operation-item.is) in
    walked_more_within IsLimitEntry (λ (o : Bor (Node Operation)). OperationDeferHolds (fragments_of D) o.now.value.value) (DeferEntryReport D) xs i x _ _ _
    c.loop-operation-test.true c.operation-item.is c.loop-operation.invariant
    (operation_checked D x.now among _ _ _ c.deref.ensures c.in_ok-check_operation_defer.ensures)

pub returns : goal.returns
returns c =
    let D = c.args.document.now in
    let xs = c.deref-operation-items.result.now in
    let P = λ (o : Node Operation). OperationDeferHolds (fragments_of D) o.value.value in
    let same : map (λ b. b.now) xs ≡ operations_of D =
    ap (λ (l : List (Bor (Node Operation))). map (λ b. b.now) l) c.deref-operation-items.ensures.value ∙ c.in_ok-operations.ensures in
    let referred = all_referred P xs in
    in_words_within IsLimitEntry (λ all. subst (All P) same (referred.0 all), λ all. referred.1 (subst (All P) (sym same) all))
    (walked_all_within IsLimitEntry (λ (o : Bor (Node Operation)). P o.now) (DeferEntryReport D) xs c.loop-operation.operation-index xs _ _ refl
    c.loop-operation-test.false c.loop-operation.invariant)
