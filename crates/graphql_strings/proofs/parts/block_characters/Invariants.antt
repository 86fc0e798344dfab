use Rattle.std.proofs.Common.{◌≡◌, length}
use Rattle.graphql_strings.specs.Scans.{with_part, block_part_at, all_parts}
use Rattle.graphql_strings.proofs.parts.block_characters.Given as goal

abbrev pub invariant-loop-part : goal.invariant-loop-part
invariant-loop-part l = with_part l.raw.items (all_parts block_part_at l.rest) ≡ all_parts block_part_at l.text

abbrev pub decreases-loop-part : goal.decreases-loop-part
decreases-loop-part l = length l.rest
