use Rattle.std.proofs.Common.{◌≡◌, ◌≤◌, length}
use Rattle.std.specs.List.{IsDistinct}
use Rattle.std.specs.Map.{keys_of}
use Rattle.indexmap.specs.IndexMap.{spare}
use Rattle.graphql_nodes.specs.Names.{same_name}
use Rattle.graphql_schemas.specs.TypeMapChanges.{FitBack, restored}
use Rattle.graphql_schemas.proofs.type_map.put_back.Given as goal

abbrev pub invariant-loop-entry : goal.invariant-loop-entry
invariant-loop-entry l = record {
  back : restored l.removed.items l.types.entries ≡ restored l.initial.removed.items l.initial.types.entries;
  fit : FitBack l.removed.items l.types.entries;
  distinct : IsDistinct same_name (keys_of (restored l.removed.items l.types.entries));
  room : length l.removed.items ≤ spare l.types;
}

abbrev pub decreases-loop-entry : goal.decreases-loop-entry
decreases-loop-entry l = length l.removed.items
