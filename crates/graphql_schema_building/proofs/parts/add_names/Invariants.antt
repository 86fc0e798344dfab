use Rattle.std.proofs.Common.{◌≡◌, ◌++◌, List, map, take}
use Rattle.graphql_nodes.specs.Names.{AreDistinct, NameText}
use Rattle.graphql_schema_building.specs.Parts.{Originated, names_said, written_names}
use Rattle.graphql_schema_building.proofs.parts.add_names.Given as goal

abbrev pub invariant-loop-tree : goal.invariant-loop-tree
invariant-loop-tree l = (written : List (Originated NameText)) → AreDistinct (written_names (λ x. x) (written ++ map (λ x. (l.origin, x)) l.trees)) →
    l.initial.names.keys ≡ names_said written →
    l.names.keys ≡ names_said (written ++ map (λ x. (l.origin, x)) (take l.tree-index l.trees))
