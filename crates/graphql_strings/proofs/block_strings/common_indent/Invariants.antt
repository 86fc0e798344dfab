use Rattle.std.proofs.Common.{◌≡◌, map, drop, fold}
use Rattle.graphql_strings.specs.BlockStrings.{least_indent, common_indent}
use Rattle.graphql_strings.proofs.block_strings.common_indent.Given as goal

abbrev pub invariant-loop-line : goal.invariant-loop-line
invariant-loop-line l =
    fold least_indent l.common (map (λ line. line.now) (drop l.line-index l.lines)) ≡ common_indent (map (λ line. line.now) l.lines)
