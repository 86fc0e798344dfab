-- Each exit of the walk over the operations, each of its turns, and what pairs decide behind it.
use Rattle.std.proofs.Common.{◌≡◌, ◌++◌, ◌∷◌, [], Bor, Contains, List, ap, drop, map, subst, sym, take, ◌∙◌, ◌+◌}
use Rattle.std.proofs.lemmas.List.{map-append, take_all}
use Rattle.std.proofs.lemmas.Result.{IfOk-weaker}
use Rattle.graphql_diagnostics.specs.Diagnostics.{IsLimitEntry, entries}
use Rattle.graphql_documents.specs.Executables.{operations_of}
use Rattle.graphql_documents.specs.declared.documents.executables.Operation.{Operation}
use Rattle.graphql_nodes.specs.declared.nodes.Node.{Node}
use Rattle.graphql_diagnostics.proofs.ReportLemmas.{kept, kept_then, kept_wider}
use Rattle.graphql_documents.proofs.ListLemmas.{more_is}
use Rattle.graphql_diagnostics.proofs.ReportWithinLemmas.{kept_within, wider_within}
use Rattle.graphql_merging.specs.MergedOperations.{MergesOneMore}
use Rattle.graphql_merging.specs.Mergers.{is_interrupted, merger_of, merging_of}
use Rattle.graphql_variables.proofs.ReferenceLemmas.{stands_referred}
use Rattle.graphql_validation.proofs.MergingStepLemmas.{call_kept, merged_of, no_operations, nothing_left, open_before, pairs_decided, reports_as, split_at}
use Rattle.graphql_document_rules.proofs.OperationStepLemmas.{MergedSoFar, if_ok, kept_so_far, left_own, merged_kept, merged_more, merged_none, merged_open, operations_so_far, pairs_kept, subscriptions_so_far, validated_all}
use Rattle.graphql_document_rules.proofs.RuleReportLemmas.{FixedEntryReport, of_a_root}
use Rattle.graphql_document_rules.proofs.operations.validate_and_merge.Goals as goal
use Rattle.graphql_document_rules.proofs.operations.validate_and_merge.Goals.{then-not-decided+in_ok-push, else-not-decided}

pub loop-operation-init : goal.loop-operation-init
loop-operation-init c =
    let r = c.new-merging.result in
    let e = c.new-merging.ensures in
    record {
      schema = e.schema;
      document = e.document;
      sound = e.sound;
      so_far = merged_none c.args.schema.now c.args.document.now (map (λ o. o.now) c.new-undecided.result.items) (is_interrupted r) (merging_of (merger_of r)) (entries c.args.diagnostics.now)
          (ap (map (λ o. o.now)) c.new-undecided.ensures.items) e.operations (merged_of e.schema e.document (e.sound e.interrupted e.refused)) e.conflicting e.too_deep;
    }

pub returns-in_err-validate_subscription_root-clause-truth : goal.returns-in_err-validate_subscription_root-clause-truth
returns-in_err-validate_subscription_root-clause-truth c =
    let D = c.args.document.now in
    let xs = c.args.operations.now in
    let x = c.operation-item.result in
    let are = c.requires in
    let among = subst (λ l. Contains l x.now) are (stands_referred xs c.loop-operation.operation-index x c.loop-operation-test.true c.operation-item.is) in
    kept_then (kept_so_far c.args.schema.now D c.loop-operation.invariant.so_far.so_far)
    (kept_wider (of_a_root c.args.schema.now D x.now among) c.in_err-validate_subscription_root.ensures)

pub returns-in_err-decided-clause-truth : goal.returns-in_err-decided-clause-truth
returns-in_err-decided-clause-truth c =
    let S = c.args.schema.now in
    let D = c.args.document.now in
    let xs = c.args.operations.now in
    let i = c.loop-operation.operation-index in
    let x = c.operation-item.result in
    let inv = c.loop-operation.invariant in
    let e = c.in_err-decided.ensures in
    let are = c.requires in
    let among = subst (λ l. Contains l x.now) are (stands_referred xs i x c.loop-operation-test.true c.operation-item.is) in
    kept_then (kept_so_far S D inv.so_far.so_far)
    (kept_then (kept_wider (of_a_root S D x.now among) (kept_within IsLimitEntry c.in_ok-validate_subscription_root.ensures))
    (call_kept S D (is_interrupted c.loop-operation.merging)
    (λ still. merged_kept (map (λ b. b.now) (drop (i + 1) xs)) x.now inv.schema inv.document (operations_so_far S D inv.so_far still) (split_at xs i x are c.loop-operation-test.true c.operation-item.is) (e.truth inv.sound))
    (λ over. (e.stays over).1)))

pub returns-in_err-push-clause-truth : goal.returns-in_err-push-clause-truth
returns-in_err-push-clause-truth c =
    let S = c.args.schema.now in
    let D = c.args.document.now in
    let xs = c.args.operations.now in
    let i = c.loop-operation.operation-index in
    let x = c.operation-item.result in
    let inv = c.loop-operation.invariant in
    let e = c.in_ok-decided.ensures in
    let are = c.requires in
    let among = subst (λ l. Contains l x.now) are (stands_referred xs i x c.loop-operation-test.true c.operation-item.is) in
    kept_then (kept_so_far S D inv.so_far.so_far)
    (kept_then (kept_wider (of_a_root S D x.now among) (kept_within IsLimitEntry c.in_ok-validate_subscription_root.ensures))
    (call_kept S D (is_interrupted c.loop-operation.merging)
    (λ still. merged_kept (map (λ b. b.now) (drop (i + 1) xs)) x.now inv.schema inv.document (operations_so_far S D inv.so_far still) (split_at xs i x are c.loop-operation-test.true c.operation-item.is) (e.truth inv.sound))
    (λ over. (e.stays over).1)))

pub loop-operation-preserved : goal.loop-operation-preserved
loop-operation-preserved c =
    let S = c.args.schema.now in
    let D = c.args.document.now in
    let xs = c.args.operations.now in
    let i = c.loop-operation.operation-index in
    let x = c.operation-item.result in
    let inv = c.loop-operation.invariant in
    let e = c.in_ok-decided.ensures in
    let before = c.loop-operation.merging in
    let after = c.validate_operation.new.self in
    let m = merging_of (merger_of before) in
    let m' = merging_of (merger_of after) in
    let now' : List (Bor (Node Operation)) → List (Node Operation) = map (λ b. b.now) in
    let done = now' (take i xs) in
    let all = now' (take (i + 1) xs) in
    let open' = now' c.loop-operation.undecided.items in
    let old = entries c.args.diagnostics.now in
    let last = entries c.validate_operation.new.diagnostics in
    let are = c.requires in
    let among = subst (λ l. Contains l x.now) are (stands_referred xs i x c.loop-operation-test.true c.operation-item.is) in
    let further : all ≡ done ++ x.now ∷ [] = ap now' (more_is xs i x c.loop-operation-test.true c.operation-item.is) ∙ map-append (λ b. b.now) (take i xs) (x ∷ []) in
    let sub = wider_within IsLimitEntry (of_a_root S D x.now among) c.in_ok-validate_subscription_root.ensures in
    let kept = call_kept S D (is_interrupted before)
    (λ still. merged_kept (map (λ b. b.now) (drop (i + 1) xs)) x.now inv.schema inv.document (operations_so_far S D inv.so_far still) (split_at xs i x are c.loop-operation-test.true c.operation-item.is) (e.truth inv.sound))
    (λ over. (e.stays over).1) in
    record {
      schema = e.schema ∙ inv.schema;
      document = e.document ∙ inv.document;
      sound = e.sound inv.sound;
      so_far = elim c.if-not-decided.branch [
        | then-not-decided+in_ok-push w ↦
            let left = e.interrupted w.if-not-decided.true in
            merged_open S D done all open' (now' c.if-not-decided.undecided.items) x.now (is_interrupted before) (is_interrupted after) m m' further
            (ap (λ (v : _). now' v.items) w.undecided-is ∙ ap now' w.in_ok-push.ensures.items ∙ map-append (λ b. b.now) c.loop-operation.undecided.items (x ∷ []))
            among left.0 inv.so_far sub (reports_as x.now inv.schema inv.document left.1)
        | else-not-decided w ↦
            let is = e.decided w.if-not-decided.false in
            subst (λ (v : _). MergedSoFar S D all (now' v.items) (is_interrupted after) m' old last) (sym w.undecided-is)
            (merged_more S D done all open' x.now (is_interrupted before) (is_interrupted after) m m' further
            (open_before (is_interrupted before) c.in_ok-decided.decided (λ over. (e.stays over).0) w.if-not-decided.false) inv.so_far sub
            (subst (λ s. MergesOneMore s x.now m m' (entries c.validate_subscription_root.new.diagnostics) last) inv.schema is.2) kept
            (merged_of (e.schema ∙ inv.schema) (e.document ∙ inv.document) (e.sound inv.sound is.0 is.1)))
      ];
    }

pub returns-then-is_empty-clause-holds : goal.returns-then-is_empty-clause-holds
returns-then-is_empty-clause-holds c built _ =
    let S = c.args.schema.now in
    let D = c.args.document.now in
    let xs = c.args.operations.now in
    let now' : List (Bor (Node Operation)) → List (Node Operation) = map (λ b. b.now) in
    let w = c.loop-operation.merging in
    let m = merging_of (merger_of w) in
    let old = entries c.args.diagnostics.now in
    let new = entries c.loop-operation.diagnostics in
    let none = no_operations c.loop-operation.undecided c.is_empty.result c.is_empty.ensures c.if-is_empty.true in
    let all = ap now' (take_all c.loop-operation.operation-index xs c.loop-operation-test.false) ∙ c.requires in
    validated_all S D built
    (subst (λ l. MergedSoFar S D l [] (is_interrupted w) m old new) all
    (subst (λ l. MergedSoFar S D (now' (take c.loop-operation.operation-index xs)) (now' l) (is_interrupted w) m old new) none c.loop-operation.invariant.so_far))
    (nothing_left S D new) (kept (FixedEntryReport S D) new)

pub returns-then-is_empty-clause-truth : goal.returns-then-is_empty-clause-truth
returns-then-is_empty-clause-truth c = kept_so_far c.args.schema.now c.args.document.now c.loop-operation.invariant.so_far.so_far

pub returns-then-is_empty-clause-subscriptions : goal.returns-then-is_empty-clause-subscriptions
returns-then-is_empty-clause-subscriptions c =
    let S = c.args.schema.now in
    let D = c.args.document.now in
    let xs = c.args.operations.now in
    let now' : List (Bor (Node Operation)) → List (Node Operation) = map (λ b. b.now) in
    let w = c.loop-operation.merging in
    let new = entries c.loop-operation.diagnostics in
    let all = ap now' (take_all c.loop-operation.operation-index xs c.loop-operation-test.false) ∙ c.requires in
    let so_far = subst (λ l. MergedSoFar S D l (now' c.loop-operation.undecided.items) (is_interrupted w) (merging_of (merger_of w)) (entries c.args.diagnostics.now) new) all c.loop-operation.invariant.so_far in
    subscriptions_so_far S D so_far.so_far (kept (FixedEntryReport S D) new)

pub returns-clause-holds : goal.returns-clause-holds
returns-clause-holds c built =
    let S = c.args.schema.now in
    let D = c.args.document.now in
    let xs = c.args.operations.now in
    let now' : List (Bor (Node Operation)) → List (Node Operation) = map (λ b. b.now) in
    let w = c.loop-operation.merging in
    let all = ap now' (take_all c.loop-operation.operation-index xs c.loop-operation-test.false) ∙ c.requires in
    let so_far = subst (λ l. MergedSoFar S D l (now' c.loop-operation.undecided.items) (is_interrupted w) (merging_of (merger_of w)) (entries c.args.diagnostics.now) (entries c.loop-operation.diagnostics)) all c.loop-operation.invariant.so_far in
    let left = subst (λ l. MergedSoFar S D (operations_of D) (now' l) (is_interrupted w) (merging_of (merger_of w)) (entries c.args.diagnostics.now) (entries c.loop-operation.diagnostics)) (sym c.deref.ensures.value) so_far in
    let kept' = pairs_kept S D c.deref.result.now (left_own S D c.deref.result.now left) c.merge_by_pairs_within.ensures.truth in
    IfOk-weaker c.merge_by_pairs_within.result _ _
    (λ decided pairs all. validated_all S D built left (pairs_decided S D c.deref.result.now (pairs all)) kept')
    c.merge_by_pairs_within.ensures.decides

pub returns-clause-truth : goal.returns-clause-truth
returns-clause-truth c =
    let S = c.args.schema.now in
    let D = c.args.document.now in
    let xs = c.args.operations.now in
    let now' : List (Bor (Node Operation)) → List (Node Operation) = map (λ b. b.now) in
    let w = c.loop-operation.merging in
    let all = ap now' (take_all c.loop-operation.operation-index xs c.loop-operation-test.false) ∙ c.requires in
    let so_far = subst (λ l. MergedSoFar S D l (now' c.loop-operation.undecided.items) (is_interrupted w) (merging_of (merger_of w)) (entries c.args.diagnostics.now) (entries c.loop-operation.diagnostics)) all c.loop-operation.invariant.so_far in
    let left = subst (λ l. MergedSoFar S D (operations_of D) (now' l) (is_interrupted w) (merging_of (merger_of w)) (entries c.args.diagnostics.now) (entries c.loop-operation.diagnostics)) (sym c.deref.ensures.value) so_far in
    kept_then (kept_so_far S D left.so_far) (pairs_kept S D c.deref.result.now (left_own S D c.deref.result.now left) c.merge_by_pairs_within.ensures.truth)

pub returns-clause-subscriptions : goal.returns-clause-subscriptions
returns-clause-subscriptions c =
    let S = c.args.schema.now in
    let D = c.args.document.now in
    let xs = c.args.operations.now in
    let now' : List (Bor (Node Operation)) → List (Node Operation) = map (λ b. b.now) in
    let w = c.loop-operation.merging in
    let all = ap now' (take_all c.loop-operation.operation-index xs c.loop-operation-test.false) ∙ c.requires in
    let so_far = subst (λ l. MergedSoFar S D l (now' c.loop-operation.undecided.items) (is_interrupted w) (merging_of (merger_of w)) (entries c.args.diagnostics.now) (entries c.loop-operation.diagnostics)) all c.loop-operation.invariant.so_far in
    if_ok c.merge_by_pairs_within.result (subscriptions_so_far S D so_far.so_far c.merge_by_pairs_within.ensures.truth)
