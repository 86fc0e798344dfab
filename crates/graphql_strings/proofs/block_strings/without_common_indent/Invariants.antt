use Rattle.std.proofs.Common.{◌≡◌, map, length}
use Rattle.graphql_strings.proofs.LineLemmas.{cut_up_to}
use Rattle.graphql_strings.proofs.block_strings.without_common_indent.Given as goal

abbrev pub invariant-loop-i : goal.invariant-loop-i
invariant-loop-i l = record {
  lines : length l.lines.items ≡ length l.fn.lines.items;
  cut : map (λ line. line.now) l.lines.items ≡ cut_up_to l.indent l.i (map (λ line. line.now) l.fn.lines.items);
}
