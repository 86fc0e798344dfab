use Rattle.std.proofs.Common.{◌≡◌, map, length}
use Rattle.graphql_strings.specs.BlockStrings.{without_first_blanks}
use Rattle.graphql_strings.proofs.block_strings.without_first_blanks.Given as goal

abbrev pub invariant-loop-rest : goal.invariant-loop-rest
invariant-loop-rest l = without_first_blanks (map (λ line. line.now) l.rest) ≡ without_first_blanks (map (λ line. line.now) l.lines)

abbrev pub decreases-loop-rest : goal.decreases-loop-rest
decreases-loop-rest l = length l.rest
