use Rattle.std.proofs.Common.{rules, ◌≡◌, None, Some}
use Rattle.graphql_repetitions.proofs.ReferenceLemmas.{passed_over_next, taken_next}
use Rattle.graphql_document_building.specs.Trees.{as_operation}
use Rattle.graphql_document_checking.proofs.documents.operations_in.Goals as goal

pub loop-tree-preserved-in_default : goal.loop-tree-preserved-in_default
loop-tree-preserved-in_default c =
    let none : as_operation c.tree-item.result ≡ None = search rules in
    passed_over_next as_operation c.args.trees.now c.loop-tree.tree-index c.tree-item.result c.loop-tree-test.true c.tree-item.is _ none c.loop-tree.invariant

pub loop-tree-preserved : goal.loop-tree-preserved
loop-tree-preserved c =
    let some : as_operation c.tree-item.result ≡ Some c.in-Operation.operation = search rules in
    taken_next as_operation c.args.trees.now c.loop-tree.tree-index c.tree-item.result c.loop-tree-test.true c.tree-item.is _ _ _ c.in_ok-push.ensures.items some
    c.loop-tree.invariant
