use Rattle.std.proofs.Common.{All, map}
use Rattle.graphql_cycles.specs.DirectiveLevels.{TypeLeadsLowerUnder}
use Rattle.graphql_cycles.proofs.directive_levels.PartLevels.next_types.Given as goal

-- the names so far are those of definitions that lead lower
abbrev pub invariant-loop-name : goal.invariant-loop-name
invariant-loop-name l = record {
  can_next : (goal.iterator-loop-name).can_next l.name-iterator;
  is_finite : (goal.iterator-loop-name).is_finite l.name-iterator;
  ready : All (TypeLeadsLowerUnder l.schema l.self l.level) (map (λ name. name.now) l.next.items);
}
