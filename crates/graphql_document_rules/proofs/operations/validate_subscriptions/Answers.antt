use Rattle.std.proofs.Common.{All, Bor, Contains, refl, subst, sym}
use Rattle.std.proofs.lemmas.Result.{MatchResult-from_err}
use Rattle.graphql_diagnostics.specs.Diagnostics.{IsLimitEntry, entries}
use Rattle.graphql_diagnostics.proofs.ReportLemmas.{kept_then, kept_wider}
use Rattle.graphql_diagnostics.proofs.ReportWithinLemmas.{in_words_within, kept_within, walked_all_within, walked_more_within, walked_none_within, wider_within}
use Rattle.graphql_documents.specs.declared.documents.executables.Operation.{Operation}
use Rattle.graphql_nodes.specs.declared.nodes.Node.{Node}
use Rattle.graphql_document_rules.specs.SingleRootField.{OperationRootHolds}
use Rattle.graphql_variables.proofs.ReferenceLemmas.{all_referred, stands_referred}
use Rattle.graphql_document_rules.proofs.RuleReportLemmas.{FixedEntryReport, of_a_root}
use Rattle.graphql_document_rules.proofs.operations.validate_subscriptions.Goals as goal

pub loop-operation-init : goal.loop-operation-init
loop-operation-init c =
    walked_none_within IsLimitEntry (λ (o : Bor (Node Operation)). OperationRootHolds c.args.schema.now c.args.document.now o.now.value.value)
    (FixedEntryReport c.args.schema.now c.args.document.now) c.args.operations.now (entries c.args.diagnostics.now)

pub returns-in_err-validate_subscription_root : goal.returns-in_err-validate_subscription_root
returns-in_err-validate_subscription_root c =
    let D = c.args.document.now in
    let x = c.operation-item.result in
    let among = subst (λ l. Contains l x.now) c.requires (stands_referred c.args.operations.now c.loop-operation.operation-index x c.loop-operation-test.true c.operation-item.is) in
    MatchResult-from_err _ _ _ c.from_residual.ensures.0
    (λ y. kept_then (kept_within IsLimitEntry (c.loop-operation.invariant))
    (kept_wider (of_a_root c.args.schema.now D x.now among) c.in_err-validate_subscription_root.ensures))

pub loop-operation-preserved : goal.loop-operation-preserved
loop-operation-preserved c =
    let D = c.args.document.now in
    let xs = c.args.operations.now in
    let i = c.loop-operation.operation-index in
    let x = c.operation-item.result in
    let among = subst (λ l. Contains l x.now) c.requires (stands_referred xs i x c.loop-operation-test.true c.operation-item.is) in
    walked_more_within IsLimitEntry (λ (o : Bor (Node Operation)). OperationRootHolds c.args.schema.now D o.now.value.value) (FixedEntryReport c.args.schema.now D) xs i x _ _ _
    c.loop-operation-test.true c.operation-item.is (c.loop-operation.invariant)
    (wider_within IsLimitEntry (of_a_root c.args.schema.now D x.now among) c.in_ok-validate_subscription_root.ensures)

pub returns : goal.returns
returns c =
    let D = c.args.document.now in
    let xs = c.args.operations.now in
    let P = λ (o : Node Operation). OperationRootHolds c.args.schema.now D o.value.value in
    let referred = all_referred P xs in
    in_words_within IsLimitEntry (λ all. subst (All P) c.requires (referred.0 all), λ all. referred.1 (subst (All P) (sym c.requires) all))
    (walked_all_within IsLimitEntry (λ (o : Bor (Node Operation)). P o.now) (FixedEntryReport c.args.schema.now D) xs c.loop-operation.operation-index xs _ _ refl
    c.loop-operation-test.false (c.loop-operation.invariant))
