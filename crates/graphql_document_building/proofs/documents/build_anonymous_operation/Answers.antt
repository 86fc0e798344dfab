use Rattle.std.proofs.Common.{rules, ◌≡◌, [], ◌∷◌, None, Some, Contains}
use Rattle.graphql_document_building.proofs.DocumentLemmas.{alone, none_yet}
use Rattle.graphql_document_building.specs.Trees.{anonymous_operations_in, as_anonymous_operation}
use Rattle.graphql_document_building.proofs.documents.build_anonymous_operation.Goals as goal

pub returns-in-Some : goal.returns-in-Some
returns-in-Some c =
    let some : as_anonymous_operation c.tree-item.result ≡ Some c.in-Some.operation.now = search rules in
    let stands : Contains c.args.trees.now c.tree-item.result = search rules in
    let is : anonymous_operations_in c.args.trees.now ≡ c.in-Some.operation.now ∷ [] = alone c.args.trees.now c.tree-item.result c.in-Some.operation.now stands some c.requires.alone in
    rw is (c.in_ok-built.ensures, tt)

pub loop-tree-preserved : goal.loop-tree-preserved
loop-tree-preserved c =
    let none : as_anonymous_operation c.tree-item.result ≡ None = search rules in
    none_yet c.args.trees.now c.loop-tree.tree-index c.tree-item.result c.loop-tree-test.true c.tree-item.is none c.loop-tree.invariant
