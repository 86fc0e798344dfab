use Rattle.std.proofs.Common.{All, Bor, Contains, Some, refl, subst, sym}
use Rattle.std.proofs.lemmas.Result.{MatchResult-from_err}
use Rattle.graphql_diagnostics.specs.Diagnostics.{IsLimitEntry, entries}
use Rattle.graphql_diagnostics.proofs.ReportLemmas.{kept_then, kept_wider}
use Rattle.graphql_diagnostics.proofs.ReportWithinLemmas.{in_words_within, kept_within, walked_all_within, walked_more_within, walked_none_within, wider_within}
use Rattle.graphql_documents.specs.declared.documents.executables.Operation.{Operation}
use Rattle.graphql_nodes.specs.declared.nodes.Node.{Node}
use Rattle.graphql_specification.specs.Subscriptions.{OperationSubscriptionHolds}
use Rattle.graphql_variables.proofs.ReferenceLemmas.{all_referred, stands_referred}
use Rattle.graphql_validation.proofs.DocumentLemmas.{DocumentEntryReport, of_a_subscription}
use Rattle.graphql_validation.proofs.entry.validate_subscriptions.Goals as goal

pub loop-operation-init : goal.loop-operation-init
loop-operation-init c = λ schema.
    walked_none_within IsLimitEntry (λ (o : Bor (Node Operation)). OperationSubscriptionHolds c.args.document.now o.now.value.value)
    (DocumentEntryReport (Some schema) c.args.document.now) c.args.operations.now (entries c.args.diagnostics.now)

pub returns-in_err-validate_subscription : goal.returns-in_err-validate_subscription
returns-in_err-validate_subscription c = λ schema.
    let D = c.args.document.now in
    let x = c.operation-item.result in
    let among = subst (λ l. Contains l x.now) c.requires (stands_referred c.args.operations.now c.loop-operation.operation-index x c.loop-operation-test.true c.operation-item.is) in
    MatchResult-from_err _ _ _ c.from_residual.ensures.0
    (λ y. kept_then (kept_within IsLimitEntry (c.loop-operation.invariant schema))
    (kept_wider (of_a_subscription schema D x.now among) c.in_err-validate_subscription.ensures))

pub loop-operation-preserved : goal.loop-operation-preserved
loop-operation-preserved c = λ schema.
    let D = c.args.document.now in
    let xs = c.args.operations.now in
    let i = c.loop-operation.operation-index in
    let x = c.operation-item.result in
    let among = subst (λ l. Contains l x.now) c.requires (stands_referred xs i x c.loop-operation-test.true c.operation-item.is) in
    walked_more_within IsLimitEntry (λ (o : Bor (Node Operation)). OperationSubscriptionHolds D o.now.value.value) (DocumentEntryReport (Some schema) D) xs i x _ _ _
    c.loop-operation-test.true c.operation-item.is (c.loop-operation.invariant schema)
    (wider_within IsLimitEntry (of_a_subscription schema D x.now among) c.in_ok-validate_subscription.ensures)

pub returns : goal.returns
returns c = λ schema.
    let D = c.args.document.now in
    let xs = c.args.operations.now in
    let P = λ (o : Node Operation). OperationSubscriptionHolds D o.value.value in
    let referred = all_referred P xs in
    in_words_within IsLimitEntry (λ all. subst (All P) c.requires (referred.0 all), λ all. referred.1 (subst (All P) (sym c.requires) all))
    (walked_all_within IsLimitEntry (λ (o : Bor (Node Operation)). P o.now) (DocumentEntryReport (Some schema) D) xs c.loop-operation.operation-index xs _ _ refl
    c.loop-operation-test.false (c.loop-operation.invariant schema))
