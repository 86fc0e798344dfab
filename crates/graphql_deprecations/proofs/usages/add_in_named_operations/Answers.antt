use Rattle.std.proofs.Common.{◌≡◌, subst}
use Rattle.std.specs.Prelude.{List}
use Rattle.indexmap.specs.IndexMap.{values}
use Rattle.graphql_nodes.specs.declared.nodes.Node.{Node}
use Rattle.graphql_documents.specs.declared.documents.executables.Operation.{Operation}
use Rattle.graphql_deprecations.specs.Deprecations.{Usage}
use Rattle.graphql_deprecations.specs.InOrder.{Adds, OperationUses}
use Rattle.graphql_deprecations.proofs.AddLemmas.{walk_begins, walk_ends, walk_goes_on}
use Rattle.graphql_deprecations.proofs.usages.add_in_named_operations.Goals as goal

pub loop-operation-init : goal.loop-operation-init
loop-operation-init c =
    let Of : Node Operation → List Usage → Type 0 = λ x. OperationUses c.args.schema.now x.value.value in
    let all = values c.args.operations.now in
    let same : all ≡ c.into_iter-operation-iterator.result = cc in
    record { can_next = tt; is_finite = tt; walk = walk_begins Of all c.into_iter-operation-iterator.result c.args.found.now.items same }

pub loop-operation-preserved : goal.loop-operation-preserved
loop-operation-preserved c =
    let Of : Node Operation → List Usage → Type 0 = λ x. OperationUses c.args.schema.now x.value.value in
    let mid = c.loop-operation.found.items in
    let new = c.add_in_operation.new.found.items in
    record {
      can_next = tt;
      is_finite = tt;
      walk = walk_goes_on Of (values c.args.operations.now) c.loop-operation.operation-iterator c.next.new.self c.in-Some.operation.now c.in-Some.ensures.steps c.loop-operation.invariant.walk
          (subst (λ x. Adds (OperationUses c.args.schema.now x) mid new) c.deref.ensures c.in_ok-add_in_operation.ensures);
    }

pub returns : goal.returns
returns c =
    let Of : Node Operation → List Usage → Type 0 = λ x. OperationUses c.args.schema.now x.value.value in
    walk_ends Of (values c.args.operations.now) c.loop-operation.operation-iterator c.in-None.ensures.steps.0 c.loop-operation.invariant.walk
