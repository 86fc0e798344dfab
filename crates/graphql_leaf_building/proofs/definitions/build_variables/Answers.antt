use Rattle.graphql_leaf_building.proofs.ListLemmas.{zip_more}
use Rattle.graphql_leaf_building.specs.Definitions.{VariableSays}
use Rattle.graphql_leaf_building.proofs.definitions.build_variables.Goals as goal

pub loop-tree-preserved : goal.loop-tree-preserved
loop-tree-preserved c =
    zip_more VariableSays c.args.trees.now c.loop-tree.tree-index c.tree-item.result c.loop-tree.variables.items c.push.new.self.items c.in_ok-variable.variable
    c.loop-tree-test.true c.tree-item.is c.loop-tree.invariant c.in_ok-variable.ensures c.in_ok-push.ensures.items
