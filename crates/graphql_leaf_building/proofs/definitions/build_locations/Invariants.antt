use Rattle.std.proofs.Common.{◌≡◌, map, take}
use Rattle.graphql_leaf_building.proofs.definitions.build_locations.Given as goal

abbrev pub invariant-loop-tree : goal.invariant-loop-tree
invariant-loop-tree l = l.locations.items ≡ map (λ placed. placed.location) (take l.tree-index l.trees)
