use Rattle.std.proofs.Common.{◌≡◌, ◌≤◌, map, length}
use Rattle.graphql_strings.specs.BlockStrings.{without_last_blanks}
use Rattle.graphql_strings.proofs.block_strings.without_last_blanks.Given as goal

abbrev pub invariant-loop-rest : goal.invariant-loop-rest
invariant-loop-rest l = record {
  same : without_last_blanks (map (λ line. line.now) l.rest) ≡ without_last_blanks (map (λ line. line.now) l.lines);
  within : length l.rest ≤ length l.lines;
}

abbrev pub decreases-loop-rest : goal.decreases-loop-rest
decreases-loop-rest l = length l.rest
