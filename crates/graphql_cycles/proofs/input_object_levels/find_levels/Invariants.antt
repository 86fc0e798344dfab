use Rattle.graphql_cycles.specs.InputObjectLevels.{AreInputObjectLevels}
use Rattle.graphql_cycles.proofs.input_object_levels.find_levels.Given as goal

-- those below this level were found
abbrev pub invariant-loop-level : goal.invariant-loop-level
invariant-loop-level l = AreInputObjectLevels l.levels l.schema l.level
