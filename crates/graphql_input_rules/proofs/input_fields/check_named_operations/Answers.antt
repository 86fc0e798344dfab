use Rattle.std.proofs.Common.{◌≡◌, subst}
use Rattle.indexmap.specs.IndexMap.{values}
use Rattle.graphql_nodes.specs.declared.nodes.Node.{Node}
use Rattle.graphql_documents.specs.declared.documents.executables.Operation.{Operation}
use Rattle.graphql_documents.specs.declared.documents.values.Value.{Value}
use Rattle.graphql_diagnostics.specs.Reports.{KeepsReports}
use Rattle.graphql_input_rules.specs.InputFields.{FieldReport}
use Rattle.graphql_input_rules.specs.ValuesWritten.{OperationWrites}
use Rattle.graphql_input_rules.proofs.PlaceLemmas.{Reported, walk_begins, walk_ends, walk_goes_on, walk_refused}
use Rattle.graphql_input_rules.proofs.input_fields.check_named_operations.Goals as goal

abbrev In : Node Operation → Value → Type 0
In x v = OperationWrites x.value.value v

pub loop-operation-init : goal.loop-operation-init
loop-operation-init c =
    let all = values c.args.operations.now in
    let same : all ≡ c.into_iter-operation-iterator.result = cc in
    record { can_next = tt; is_finite = tt; walk = walk_begins In all c.into_iter-operation-iterator.result c.args.reports.now.kept.items same }

pub loop-operation-preserved : goal.loop-operation-preserved
loop-operation-preserved c =
    let all = values c.args.operations.now in
    let mid = c.loop-operation.reports.kept.items in
    let new = c.check_operation.new.reports.kept.items in
    record {
      can_next = tt;
      is_finite = tt;
      walk = walk_goes_on In all c.loop-operation.operation-iterator c.next.new.self c.in-Some.operation.now c.args.reports.now.kept.items mid new c.in-Some.ensures.steps c.loop-operation.invariant.walk
          (subst (λ x. Reported (OperationWrites x) mid new) (c.deref.ensures) c.in_ok-check_operation.ensures);
    }

pub returns-in_err-check_operation : goal.returns-in_err-check_operation
returns-in_err-check_operation c =
    let all = values c.args.operations.now in
    let mid = c.loop-operation.reports.kept.items in
    let new = c.check_operation.new.reports.kept.items in
    walk_refused In all c.loop-operation.operation-iterator c.next.new.self c.in-Some.operation.now c.args.reports.now.kept.items mid new c.in-Some.ensures.steps c.loop-operation.invariant.walk
    c.from_residual.result c.from_residual.ensures.0
    (subst (λ x. KeepsReports (FieldReport (OperationWrites x)) mid new) (c.deref.ensures) c.in_err-check_operation.ensures)

pub returns : goal.returns
returns c = walk_ends In (values c.args.operations.now) c.loop-operation.operation-iterator c.args.reports.now.kept.items c.loop-operation.reports.kept.items c.in-None.ensures.steps.0 c.loop-operation.invariant.walk
