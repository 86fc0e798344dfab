use Rattle.std.proofs.Common.{rules, ◌≡◌, None, Some}
use Rattle.std.specs.Option.{option_map}
use Rattle.graphql_document_building.specs.Trees.{as_named_operation}
use Rattle.graphql_document_checking.proofs.DocumentLemmas.{name_more, no_name_more}
use Rattle.graphql_document_checking.proofs.documents.operation_names.Goals as goal

pub loop-tree-preserved-in_default : goal.loop-tree-preserved-in_default
loop-tree-preserved-in_default c =
    let none : option_map (λ p. p.0) (as_named_operation c.tree-item.result) ≡ None = search rules in
    no_name_more as_named_operation c.args.trees.now c.loop-tree.tree-index c.tree-item.result c.loop-tree-test.true c.tree-item.is _ none c.loop-tree.invariant

pub loop-tree-preserved : goal.loop-tree-preserved
loop-tree-preserved c =
    let some : option_map (λ p. p.0) (as_named_operation c.tree-item.result) ≡ Some c.in-Some.name.now = search rules in
    name_more as_named_operation c.args.trees.now c.loop-tree.tree-index c.tree-item.result c.loop-tree-test.true c.tree-item.is _ _ _ c.in_ok-push.ensures.items some
    c.loop-tree.invariant
