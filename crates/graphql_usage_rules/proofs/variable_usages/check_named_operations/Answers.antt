use Rattle.std.proofs.Common.{◌≡◌, ◌∙◌, ◌++◌, ◌∷◌, [], ap, subst}
use Rattle.std.proofs.lemmas.List.{append-nil}
use Rattle.indexmap.specs.IndexMap.{values}
use Rattle.graphql_nodes.specs.declared.nodes.Node.{Node}
use Rattle.graphql_documents.proofs.ListLemmas.{done_next, stands_next}
use Rattle.graphql_documents.specs.declared.documents.executables.Operation.{Operation}
use Rattle.graphql_usage_rules.specs.VariableMisuses.{OperationMisuseReport, OperationUsagesAreAllowed}
use Rattle.graphql_usage_rules.proofs.DocumentLemmas.{KeptOne, ReportedOne, all_walked, nothing_walked, one_walked, walk_refused}
use Rattle.graphql_usage_rules.proofs.variable_usages.check_named_operations.Goals as goal

pub loop-operation-init : goal.loop-operation-init
loop-operation-init c = record {
  can_next = tt;
  is_finite = tt;
  done = [];
  all = let e : values c.args.document.now.operations.named ≡ c.into_iter-operation-iterator.result = cc in e;
  reported = nothing_walked (OperationUsagesAreAllowed c.args.schema.now c.args.document.now) (OperationMisuseReport c.args.schema.now c.args.document.now) (values c.args.document.now.operations.named) c.args.reports.now.kept.items;
}

pub loop-operation-preserved : goal.loop-operation-preserved
loop-operation-preserved c =
    let s = c.args.schema.now in
    let d = c.args.document.now in
    let all = values d.operations.named in
    let x : Node Operation = c.in-Some.operation.now in
    let done = c.loop-operation.invariant.done in
    let next : c.loop-operation.operation-iterator ≡ x ∷ c.next.new.self = c.in-Some.ensures.steps in
    let mid = c.loop-operation.reports.kept.items in
    let new = c.check_operation.new.reports.kept.items in
    record {
      can_next = tt;
      is_finite = tt;
      done = done ++ x ∷ [];
      all = done_next all done c.loop-operation.operation-iterator c.next.new.self x c.loop-operation.invariant.all next;
      reported = one_walked (OperationUsagesAreAllowed s d) (OperationMisuseReport s d) all done x c.args.reports.now.kept.items mid new
          (stands_next all done c.loop-operation.operation-iterator c.next.new.self x c.loop-operation.invariant.all next) c.loop-operation.invariant.reported
          (subst (λ o. ReportedOne (OperationUsagesAreAllowed s d) (OperationMisuseReport s d) o mid new) c.deref.ensures c.in_ok-check_operation.ensures);
    }

pub returns-in_err-check_operation : goal.returns-in_err-check_operation
returns-in_err-check_operation c =
    let s = c.args.schema.now in
    let d = c.args.document.now in
    let all = values d.operations.named in
    let x : Node Operation = c.in-Some.operation.now in
    let done = c.loop-operation.invariant.done in
    let next : c.loop-operation.operation-iterator ≡ x ∷ c.next.new.self = c.in-Some.ensures.steps in
    let mid = c.loop-operation.reports.kept.items in
    let new = c.check_operation.new.reports.kept.items in
    walk_refused (OperationUsagesAreAllowed s d) (OperationMisuseReport s d) c.from_residual.result all done x c.args.reports.now.kept.items mid new c.from_residual.ensures.0
    (stands_next all done c.loop-operation.operation-iterator c.next.new.self x c.loop-operation.invariant.all next) c.loop-operation.invariant.reported
    (subst (λ o. KeptOne (OperationUsagesAreAllowed s d) (OperationMisuseReport s d) o mid new) c.deref.ensures c.in_err-check_operation.ensures)

pub returns : goal.returns
returns c =
    let all = values c.args.document.now.operations.named in
    let done : all ≡ c.loop-operation.invariant.done =
    c.loop-operation.invariant.all ∙ ap (λ l. c.loop-operation.invariant.done ++ l) c.in-None.ensures.steps.0 ∙ append-nil c.loop-operation.invariant.done in
    all_walked (OperationUsagesAreAllowed c.args.schema.now c.args.document.now) (OperationMisuseReport c.args.schema.now c.args.document.now) all c.loop-operation.invariant.done c.args.reports.now.kept.items c.loop-operation.reports.kept.items done
    c.loop-operation.invariant.reported
