use Rattle.std.proofs.Common.{◌≡◌, ◌≤◌, ◌+◌, count_by, filter, length, not}
use Rattle.std.specs.Vec.{vec_capacity}
use Rattle.indexmap.specs.IndexMap.{spare}
use Rattle.graphql_field_definitions.specs.BuiltInScalarUses.{holds_text}
use Rattle.graphql_schemas.specs.TypeMapChanges.{FitBack, is_unused, restored}
use Rattle.graphql_schemas.proofs.type_map.remove_unused.Given as goal

abbrev pub invariant-loop-index : goal.invariant-loop-index
invariant-loop-index l =
    let p = is_unused (holds_text l.built_in_scalars) in
    record {
      kept : filter (λ entry. not (p entry)) l.types.entries ≡ filter (λ entry. not (p entry)) l.fn.types.entries;
      back : restored l.removed.items l.types.entries ≡ l.fn.types.entries;
      fit : FitBack l.removed.items l.types.entries;
      counted : length l.removed.items + count_by p l.types.entries ≡ count_by p l.fn.types.entries;
      capacity : count_by p l.fn.types.entries ≤ vec_capacity l.removed;
      room : spare l.fn.types ≤ spare l.types;
    }

abbrev pub decreases-loop-index : goal.decreases-loop-index
decreases-loop-index l = length l.types.entries
