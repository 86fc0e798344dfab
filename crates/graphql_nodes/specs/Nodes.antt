-- Nodes: values with a place.
use Rattle.std.specs.Prelude.{◌≡◌}
use Rattle.graphql_nodes.specs.declared.nodes.Node.{Node}

-- b has the value and the place of a
pub record SameNode {T : Type 0} (a b : Node T) : Type 0 where
  pub same_value : b.value.value ≡ a.value.value
  pub same_location : b.location ≡ a.location
