use Rattle.std.proofs.Common.{Bor, List, ap, map, ◌∙◌}
use Rattle.std.proofs.lemmas.Result.{IfOk-at_ok}
use Rattle.graphql_documents.specs.declared.documents.executables.Operation.{Operation}
use Rattle.graphql_nodes.specs.declared.nodes.Node.{Node}
use Rattle.graphql_validation.proofs.MergingStepLemmas.{lone_merges}
use Rattle.graphql_document_rules.proofs.OperationStepLemmas.{lone_hold, lone_kept, lone_subscriptions}
use Rattle.graphql_document_rules.proofs.operations.validate_operations.Goals as goal

-- operations that are lent are those that were listed
abbrev named : List (Bor (Node Operation)) → List (Node Operation)
named operations = map (λ o. o.now) operations

pub validate_subscriptions-requires : goal.validate_subscriptions-requires
validate_subscriptions-requires c = ap named c.deref-then-branch.ensures.value ∙ c.in_ok-operations.ensures

pub validate_and_merge-requires : goal.validate_and_merge-requires
validate_and_merge-requires c = ap named c.deref-2.ensures.value ∙ c.in_ok-operations.ensures

pub returns-then-branch-clause-holds : goal.returns-then-branch-clause-holds
returns-then-branch-clause-holds c built _ =
    let S = c.args.schema.now in
    let D = c.args.document.now in
    let listed = ap named c.deref.ensures.value ∙ c.in_ok-operations.ensures in
    IfOk-at_ok _ c.in_ok-validate_subscriptions.was
    (lone_hold S D c.validate_subscriptions.result _ _
    (lone_merges S D built c.deref.result.now listed (c.in_ok-have_lone_fields.ensures.lone c.if-branch.true)) c.validate_subscriptions.ensures)

pub returns-in_err-validate_subscriptions-clause-truth : goal.returns-in_err-validate_subscriptions-clause-truth
returns-in_err-validate_subscriptions-clause-truth c =
    lone_kept c.args.schema.now c.args.document.now c.validate_subscriptions.result _ _ c.validate_subscriptions.ensures

pub returns-then-branch-clause-truth : goal.returns-then-branch-clause-truth
returns-then-branch-clause-truth c =
    lone_kept c.args.schema.now c.args.document.now c.validate_subscriptions.result _ _ c.validate_subscriptions.ensures

pub returns-then-branch-clause-subscriptions : goal.returns-then-branch-clause-subscriptions
returns-then-branch-clause-subscriptions c =
    IfOk-at_ok _ c.in_ok-validate_subscriptions.was
    (lone_subscriptions c.args.schema.now c.args.document.now c.validate_subscriptions.result _ _ c.validate_subscriptions.ensures)
