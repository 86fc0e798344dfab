use Rattle.std.proofs.Common.{All, take}
use Rattle.graphql_cycles.specs.DirectiveLevels.{ReferenceIsLower}
use Rattle.graphql_cycles.proofs.directive_levels.PartLevels.all_lower.Given as goal

-- those so far lead lower
abbrev pub invariant-loop-reference : goal.invariant-loop-reference
invariant-loop-reference l = All (ReferenceIsLower l.self l.level) (take l.reference-index l.references)
