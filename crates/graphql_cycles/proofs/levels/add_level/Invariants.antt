use Rattle.std.proofs.Common.{map, take}
use Rattle.graphql_cycles.specs.Levels.{AddsLevel}
use Rattle.graphql_cycles.proofs.levels.add_level.Given as goal

-- the names so far are at the level
abbrev pub invariant-loop-name : goal.invariant-loop-name
invariant-loop-name l = AddsLevel l.initial.levels l.levels (map (λ name. name.now) (take l.name-index l.names)) l.level
