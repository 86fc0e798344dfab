use Rattle.graphql_leaf_building.proofs.ListLemmas.{zip_more}
use Rattle.graphql_leaf_building.specs.Directives.{DirectiveSays}
use Rattle.graphql_leaf_building.proofs.directives.build_directives.Goals as goal

pub loop-tree-preserved : goal.loop-tree-preserved
loop-tree-preserved c =
    zip_more DirectiveSays c.args.trees.now c.loop-tree.tree-index c.tree-item.result c.loop-tree.directives.items c.push.new.self.items c.in_ok-directive.directive
    c.loop-tree-test.true c.tree-item.is c.loop-tree.invariant c.in_ok-directive.ensures c.in_ok-push.ensures.items
