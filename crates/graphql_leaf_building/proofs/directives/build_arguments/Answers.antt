use Rattle.graphql_leaf_building.proofs.ListLemmas.{zip_more}
use Rattle.graphql_leaf_building.specs.Directives.{ArgumentSays}
use Rattle.graphql_leaf_building.proofs.directives.build_arguments.Goals as goal

pub loop-tree-preserved : goal.loop-tree-preserved
loop-tree-preserved c =
    zip_more ArgumentSays c.args.trees.now c.loop-tree.tree-index c.tree-item.result c.loop-tree.arguments.items c.push.new.self.items c.in_ok-argument.argument
    c.loop-tree-test.true c.tree-item.is c.loop-tree.invariant c.in_ok-argument.ensures c.in_ok-push.ensures.items
