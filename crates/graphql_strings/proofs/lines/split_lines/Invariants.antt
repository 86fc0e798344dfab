use Rattle.std.proofs.Common.{◌≡◌, ◌++◌, map, length}
use Rattle.graphql_strings.specs.BlockStrings.{split_lines}
use Rattle.graphql_strings.proofs.lines.split_lines.Given as goal

abbrev pub invariant-loop-line : goal.invariant-loop-line
invariant-loop-line l = map (λ line. line.now) l.lines.items ++ split_lines l.rest ≡ split_lines l.text

abbrev pub decreases-loop-line : goal.decreases-loop-line
decreases-loop-line l = length l.rest
