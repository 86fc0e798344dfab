use Rattle.indexmap.specs.IndexMap.{values}
use Rattle.std.specs.Prelude.{option_to_list}
use Rattle.graphql_built.proofs.BuiltLemmas.{all_of_both, not_all_of_first}
use Rattle.graphql_documents.specs.Built.{OperationIsBuilt}
use Rattle.graphql_documents.specs.declared.documents.executables.Operation.{Operation}
use Rattle.graphql_nodes.specs.declared.nodes.Node.{Node}
use Rattle.graphql_built.proofs.built.operations_are_built.Goals as goal

pub returns-then-anonymous_operation_is_built : goal.returns-then-anonymous_operation_is_built
returns-then-anonymous_operation_is_built c =
    let P = λ (o : Node Operation). OperationIsBuilt c.args.schema.now o.value.value in
    all_of_both P (option_to_list c.args.document.now.operations.anonymous) (values c.args.document.now.operations.named) _
    (c.anonymous_operation_is_built.ensures.0 c.if-anonymous_operation_is_built.true) c.named_operations_are_built.ensures

pub returns-else-anonymous_operation_is_built : goal.returns-else-anonymous_operation_is_built
returns-else-anonymous_operation_is_built c =
    let P = λ (o : Node Operation). OperationIsBuilt c.args.schema.now o.value.value in
    not_all_of_first P (option_to_list c.args.document.now.operations.anonymous) (values c.args.document.now.operations.named) _
    c.anonymous_operation_is_built.ensures c.if-anonymous_operation_is_built.false
