use Rattle.std.specs.Prelude.{List, option_to_list}
use Rattle.std.proofs.lemmas.Result.{on_ok_weaker}
use Rattle.indexmap.specs.IndexMap.{values}
use Rattle.graphql_nodes.specs.declared.nodes.Node.{Node}
use Rattle.graphql_documents.specs.declared.documents.executables.Operation.{Operation}
use Rattle.graphql_deprecations.specs.Deprecations.{Usage}
use Rattle.graphql_deprecations.specs.InOrder.{OperationUses}
use Rattle.graphql_deprecations.proofs.AddLemmas.{adds_then, turn_append}
use Rattle.graphql_deprecations.proofs.usages.add_in_operations.Goals as goal

pub returns : goal.returns
returns c =
    let Of : Node Operation → List Usage → Type 0 = λ o. OperationUses c.args.schema.now o.value.value in
    let o = c.args.operations.now in
    on_ok_weaker c.add_in_named_operations.result
    (adds_then (λ a b. turn_append Of (option_to_list o.anonymous) (values o.named) a b) c.in_ok-add_in_anonymous_operation.ensures)
    c.add_in_named_operations.ensures
