use Rattle.std.proofs.Common.{IsFalse, ◌≤◌, length}
use Rattle.std.specs.Prelude.{is_none}
use Rattle.std.proofs.lemmas.List.{length-map}
use Rattle.std.proofs.lemmas.List.Elements.{All-nil}
use Rattle.graphql_diagnostics.proofs.ReportLemmas.{checks-err, holds, kept_by, kept_then}
use Rattle.graphql_trees.specs.declared.executable.OperationDefinition.{OperationDefinition}
use Rattle.graphql_repetitions.specs.References.{nows}
use Rattle.graphql_repetitions.proofs.ReferenceLemmas.{stands_now}
use Rattle.graphql_repetitions.proofs.WalkLemmas.{walked_all_now, walked_more_now}
use Rattle.graphql_document_checking.proofs.documents.check_all_named.Goals as goal

pub loop-operation-init : goal.loop-operation-init
loop-operation-init c = holds _ _ _ (All-nil _)

pub returns-in_err-check_named : goal.returns-in_err-check_named
returns-in_err-check_named c =
    let xs = c.args.operations.now in
    let i = c.loop-operation.operation-index in
    let x = c.operation-item.result in
    let several : 2 ≤ length (nows xs) = rw length-map c.requires in
    checks-err _ _ _ _ _ c.from_residual.ensures.0
    (kept_then (kept_by c.loop-operation.invariant)
    (c.in_err-check_named.ensures (nows xs) (stands_now xs i x c.loop-operation-test.true c.operation-item.is) several))

pub loop-operation-preserved : goal.loop-operation-preserved
loop-operation-preserved c =
    let xs = c.args.operations.now in
    let i = c.loop-operation.operation-index in
    let x = c.operation-item.result in
    let several : 2 ≤ length (nows xs) = rw length-map c.requires in
    walked_more_now (λ (x : OperationDefinition). IsFalse (is_none x.name)) _ xs i x _ _ _ c.loop-operation-test.true c.operation-item.is c.loop-operation.invariant
    (c.in_ok-check_named.ensures (nows xs) (stands_now xs i x c.loop-operation-test.true c.operation-item.is) several)

pub returns : goal.returns
returns c =
    walked_all_now (λ (x : OperationDefinition). IsFalse (is_none x.name)) _ c.args.operations.now c.loop-operation.operation-index _ _ c.loop-operation-test.false
    c.loop-operation.invariant
