use Rattle.std.proofs.Common.{All, map}
use Rattle.graphql_cycles.specs.InputObjectLevels.{RequiresLowerUnder}
use Rattle.graphql_cycles.proofs.input_object_levels.next_input_objects.Given as goal

-- the names so far are those of input objects that require only lower ones
abbrev pub invariant-loop-name : goal.invariant-loop-name
invariant-loop-name l = record {
  can_next : (goal.iterator-loop-name).can_next l.name-iterator;
  is_finite : (goal.iterator-loop-name).is_finite l.name-iterator;
  ready : All (RequiresLowerUnder l.levels l.schema l.level) (map (λ name. name.now) l.next.items);
}
