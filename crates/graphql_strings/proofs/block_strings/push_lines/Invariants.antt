use Rattle.std.proofs.Common.{◌≡◌, ◌∷◌, ◌++◌, map, drop, flat_map}
use Rattle.graphql_strings.proofs.block_strings.push_lines.Given as goal

abbrev pub invariant-loop-line : goal.invariant-loop-line
invariant-loop-line l =
    l.joined.items ++ flat_map (λ line. 10 ∷ line) (map (λ line. line.now) (drop l.line-index l.lines))
    ≡ l.fn.joined.items ++ flat_map (λ line. 10 ∷ line) (map (λ line. line.now) l.lines)
