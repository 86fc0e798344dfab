use Rattle.graphql_cycles.specs.DirectiveLevels.{ArePartLevels}
use Rattle.graphql_cycles.proofs.directive_levels.find_levels.Given as goal

-- those below this level were found
abbrev pub invariant-loop-level : goal.invariant-loop-level
invariant-loop-level l = ArePartLevels l.schema l.levels l.level
