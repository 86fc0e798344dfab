use Rattle.std.proofs.Common.{◌≡◌, ◌≤◌, ◌+◌, ◌++◌, length}
use Rattle.std.specs.List.{IsDistinct}
use Rattle.std.specs.Map.{keys_of}
use Rattle.std.specs.Vec.Iter.{into_iter_items}
use Rattle.indexmap.specs.IndexMap.{spare}
use Rattle.graphql_nodes.specs.Names.{same_name}
use Rattle.graphql_schemas.proofs.type_map.insert_scalars.Given as goal

abbrev pub invariant-loop-name : goal.invariant-loop-name
invariant-loop-name l = record {
  can_next : (goal.iterator-loop-name).can_next l.name-iterator;
  is_finite : (goal.iterator-loop-name).is_finite l.name-iterator;
  are : l.types.entries ++ into_iter_items l.name-iterator ≡ l.initial.types.entries ++ into_iter_items l.initial.name-iterator;
  distinct : IsDistinct same_name (keys_of (l.types.entries ++ into_iter_items l.name-iterator));
  room : length (into_iter_items l.name-iterator) ≤ spare l.types;
  used : spare l.initial.types + length (into_iter_items l.name-iterator) ≤ spare l.types + length (into_iter_items l.initial.name-iterator);
}
